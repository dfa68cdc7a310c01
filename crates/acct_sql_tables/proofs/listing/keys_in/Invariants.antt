use Rattle.std.proofs.Common.{◌≡◌, map, take}
use Rattle.sqlite_value.specs.Order.{column}
use Rattle.acct_sql_tables.specs.inner.Columns.{key_in_columns}
use Rattle.acct_sql_tables.proofs.listing.keys_in.Given as goal

abbrev pub invariant-loop-columns : goal.invariant-loop-columns
invariant-loop-columns l = l.keys.items ≡ map (λ r. key_in_columns (column r))
    (take l.columns-index l.shown)
