use Rattle.std.proofs.Common.{◌≡◌, ◌++◌}
use Rattle.std.specs.Prelude.{bytes_eq}
use Rattle.std.specs.List.{filter}
use Rattle.std.specs.BTreeMap as tree
use Rattle.std.specs.Map.{values_of}
use Rattle.acct_book.proofs.memory_book.topups_to.Given as goal

abbrev pub invariant-loop-topup : goal.invariant-loop-topup
invariant-loop-topup l = l.topups.items ++ filter (λ topup. bytes_eq l.account topup.account)
    (values_of l.topup-iterator) ≡ filter (λ topup. bytes_eq l.account topup.account)
    (tree.values l.map)
