use Rattle.std.proofs.Common.{take}
use Rattle.std.specs.List.{AllByRecursion}
use Rattle.acct_sql_tables.specs.inner.Looked.{IsShownIn}
use Rattle.acct_sql_upkeep.proofs.adopting.are_shown.Given as goal

abbrev pub invariant-loop-plan : goal.invariant-loop-plan
invariant-loop-plan l = AllByRecursion (IsShownIn l.table l.rows) (take l.plan-index l.plans)
