use Rattle.std.proofs.Common.{◌≡◌, map, take}
use Rattle.sqlite_value.specs.Order.{column}
use Rattle.acct_sql_tables.specs.Columns.{topup_in_columns}
use Rattle.acct_sql_tables.proofs.listing.topups_in.Given as goal

abbrev pub invariant-loop-columns : goal.invariant-loop-columns
invariant-loop-columns l = l.topups.items ≡ map (λ r. topup_in_columns (column r))
    (take l.columns-index l.shown)
