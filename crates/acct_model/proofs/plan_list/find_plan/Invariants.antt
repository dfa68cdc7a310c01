use Rattle.std.proofs.Common.{◌≡◌, drop}
use Rattle.std.specs.List.{find}
use Rattle.acct_model.specs.Plans.{has_class}
use Rattle.acct_model.proofs.plan_list.find_plan.Given as goal

abbrev pub invariant-loop-plan : goal.invariant-loop-plan
invariant-loop-plan l =
    find (has_class l.class) (drop l.plan-index l.plans) ≡ find (has_class l.class) l.fn.plans
