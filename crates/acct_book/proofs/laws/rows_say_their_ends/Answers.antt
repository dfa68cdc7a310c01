use Rattle.acct_book.proofs.Ends.{rows_say_ends}
use Rattle.acct_book.proofs.laws.rows_say_their_ends.Goals as goal

pub returns : goal.returns
returns c = rows_say_ends
