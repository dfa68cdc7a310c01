use Rattle.std.proofs.Common.{take}
use Rattle.std.specs.List.{AllByRecursion}
use Rattle.acct_sql_tables.specs.inner.Looked.{Says}
use Rattle.acct_sql_upkeep.proofs.adopting.is_plan.Given as goal

abbrev pub invariant-loop-plan : goal.invariant-loop-plan
invariant-loop-plan l = AllByRecursion (λ plan. ¬ (Says l.table plan l.row)) (take l.plan-index
    l.plans)
