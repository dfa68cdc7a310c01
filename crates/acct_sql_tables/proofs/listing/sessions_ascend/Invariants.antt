use Rattle.std.proofs.Common.{map, take}
use Rattle.std.specs.List.Sorted.{IsStrictlySortedBy}
use Rattle.acct_book.specs.Content.{key_of}
use Rattle.acct_book.specs.Maps.{key_cmp}
use Rattle.acct_sql_tables.proofs.listing.sessions_ascend.Given as goal

abbrev pub invariant-loop-at : goal.invariant-loop-at
invariant-loop-at l = IsStrictlySortedBy key_cmp (map key_of (take l.at l.rows))
