use Rattle.std.proofs.Common.{◌≡◌, ◌++◌}
use Rattle.std.specs.Prelude.{bytes_eq}
use Rattle.std.specs.List.{filter}
use Rattle.std.specs.BTreeMap as tree
use Rattle.std.specs.Map.{values_of}
use Rattle.acct_book.proofs.memory_book.rows_of.Given as goal

abbrev pub invariant-loop-row : goal.invariant-loop-row
invariant-loop-row l = l.rows.items ++ filter (λ row. bytes_eq l.account row.account)
    (values_of l.row-iterator) ≡ filter (λ row. bytes_eq l.account row.account) (tree.values l.map)
