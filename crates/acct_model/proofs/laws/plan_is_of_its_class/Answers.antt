use Rattle.acct_model.proofs.PlanLaws.{plan_of_class}
use Rattle.acct_model.proofs.laws.plan_is_of_its_class.Goals as goal

pub returns : goal.returns
returns c = plan_of_class
