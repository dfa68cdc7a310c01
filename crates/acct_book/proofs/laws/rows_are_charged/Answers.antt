use Rattle.acct_book.proofs.Ends.{rows_are_charged}
use Rattle.acct_book.proofs.laws.rows_are_charged.Goals as goal

pub returns : goal.returns
returns c = rows_are_charged
