use Rattle.std.proofs.Common.{map, take}
use Rattle.std.specs.List.Sorted.{IsStrictlySortedBy}
use Rattle.acct_book.specs.declared.key.Key.{Key}
use Rattle.acct_book.specs.Maps.{key_cmp}
use Rattle.acct_sql_tables.proofs.listing.keys_ascend.Given as goal

abbrev pub invariant-loop-at : goal.invariant-loop-at
invariant-loop-at l = IsStrictlySortedBy key_cmp (map (λ (k : Key). k) (take l.at l.keys))
