use Rattle.std.proofs.Common.{take}
use Rattle.std.specs.List.{AllByRecursion}
use Rattle.acct_sql_tables.specs.inner.Looked.{Says}
use Rattle.acct_sql_upkeep.proofs.adopting.is_shown.Given as goal

abbrev pub invariant-loop-row : goal.invariant-loop-row
invariant-loop-row l = AllByRecursion (λ row. ¬ (Says l.table l.plan row)) (take l.row-index l.rows)
