use Rattle.acct_model.proofs.PlanLaws.{plans_keep_bounds}
use Rattle.acct_model.proofs.laws.faultless_plans_keep_bounds.Goals as goal

pub returns : goal.returns
returns c = plans_keep_bounds
