use Rattle.std.proofs.Common.{rules}
use Rattle.acct_model.proofs.plan_list.fault_after.Goals as goal

-- Each search is kept short: it finds these, and gives up soon on a body that breaks one.
pub returns-then-has_plan : goal.returns-then-has_plan
returns-then-has_plan c = search rules fits 100

pub returns : goal.returns
returns c = search rules fits 100
