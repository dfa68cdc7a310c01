use Rattle.acct_book_audit.proofs.Standing.{sound_books_balance}
use Rattle.acct_book_audit.proofs.laws.sound_books_balance.Goals as goal

pub returns : goal.returns
returns c = sound_books_balance
