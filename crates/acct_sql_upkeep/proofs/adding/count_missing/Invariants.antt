use Rattle.std.proofs.Common.{◌≡◌, ◌≤◌, take, length, List}
use Rattle.acct_model.specs.declared.plan.Plan.{Plan}
use Rattle.acct_model.specs.Plans.{plans_added}
use Rattle.acct_sql_upkeep.specs.inner.Adding.{AreShownOf, ShowsClassesOf}
use Rattle.acct_sql_upkeep.proofs.adding.count_missing.Given as goal

abbrev pub invariant-loop-plan : goal.invariant-loop-plan
invariant-loop-plan l = (l.count ≤ l.plan-index)
    × ((shown : List Plan) × AreShownOf (take l.plan-index l.plans) l.prices shown)
    × ((old : List Plan) → ShowsClassesOf old l.prices (take l.plan-index l.plans)
    → l.count ≡ length (plans_added old (take l.plan-index l.plans)))
