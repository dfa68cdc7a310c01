use Rattle.std.proofs.Common.{◌≡◌, ◌++◌, map}
use Rattle.std.specs.Prelude.{bytes_eq}
use Rattle.std.specs.List.{filter}
use Rattle.std.specs.BTreeMap as tree
use Rattle.std.specs.Map.{values_of}
use Rattle.acct_book.specs.Content.{key_of}
use Rattle.acct_book.proofs.memory_book.keys_to.Given as goal

abbrev pub invariant-loop-row : goal.invariant-loop-row
invariant-loop-row l = l.keys.items ++ map key_of
    (filter (λ row. bytes_eq l.account row.account) (values_of l.row-iterator))
    ≡ map key_of (filter (λ row. bytes_eq l.account row.account) (tree.values l.rows))
