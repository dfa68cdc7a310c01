use Rattle.std.proofs.Common.{take}
use Rattle.std.specs.List.{AllByRecursion}
use Rattle.acct_sql_tables.specs.inner.Looked.{IsPlanIn}
use Rattle.acct_sql_upkeep.proofs.adopting.are_plans.Given as goal

abbrev pub invariant-loop-row : goal.invariant-loop-row
invariant-loop-row l = AllByRecursion (IsPlanIn l.table l.plans) (take l.row-index l.rows)
