use Rattle.acct_book.proofs.Ends.{rows_have_keys}
use Rattle.acct_book.proofs.laws.rows_have_their_keys.Goals as goal

pub returns : goal.returns
returns c = rows_have_keys
