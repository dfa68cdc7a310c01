use Rattle.std.proofs.Common.{map, take}
use Rattle.std.specs.List.Sorted.{IsStrictlySortedBy}
use Rattle.acct_model.specs.Vouchers.{TopUpFacts}
use Rattle.acct_book.specs.Maps.{octets_cmp}
use Rattle.acct_sql_tables.proofs.listing.topups_ascend.Given as goal

abbrev pub invariant-loop-at : goal.invariant-loop-at
invariant-loop-at l = IsStrictlySortedBy octets_cmp (map (λ (t : TopUpFacts). t.voucher)
    (take l.at l.topups))
