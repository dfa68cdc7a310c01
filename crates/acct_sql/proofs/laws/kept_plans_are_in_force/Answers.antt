use Rattle.acct_sql.proofs.AdditionLemmas.{kept_in_force}
use Rattle.acct_sql.proofs.laws.kept_plans_are_in_force.Goals as goal

pub returns : goal.returns
returns c = kept_in_force
