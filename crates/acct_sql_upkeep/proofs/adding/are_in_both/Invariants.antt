use Rattle.std.proofs.Common.{take, ◌↔◌}
use Rattle.std.specs.List.{AllByRecursion}
use Rattle.acct_model.specs.declared.plan.Plan.{Plan}
use Rattle.acct_sql_tables.specs.declared.plan_table.PlanTable.TheVariants.{Prices, Counts}
use Rattle.acct_sql_tables.specs.inner.Looked.{IsShownIn}
use Rattle.acct_sql_upkeep.proofs.adding.are_in_both.Given as goal

abbrev pub invariant-loop-plan : goal.invariant-loop-plan
invariant-loop-plan l = AllByRecursion
    (λ (plan : Plan). IsShownIn Prices l.prices plan ↔ IsShownIn Counts l.counts plan)
    (take l.plan-index l.plans)
