use Rattle.acct_book.proofs.Ends.{rows_keep_plans}
use Rattle.acct_book.proofs.laws.rows_keep_their_plans.Goals as goal

pub returns : goal.returns
returns c = rows_keep_plans
