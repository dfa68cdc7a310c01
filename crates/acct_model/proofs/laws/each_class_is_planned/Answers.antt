use Rattle.acct_model.proofs.PlanFaults.{each_planned}
use Rattle.acct_model.proofs.laws.each_class_is_planned.Goals as goal

pub returns : goal.returns
returns c = each_planned
