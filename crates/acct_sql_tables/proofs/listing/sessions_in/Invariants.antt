use Rattle.std.proofs.Common.{◌≡◌, map, take}
use Rattle.sqlite_value.specs.Order.{column}
use Rattle.acct_sql_tables.specs.Columns.{session_in_columns}
use Rattle.acct_sql_tables.specs.Book.{is_sound_at, is_open_at}
use Rattle.acct_sql_tables.specs.inner.AtRest.{StaysAtRest, planned, plans_at}
use Rattle.acct_sql_tables.proofs.listing.sessions_in.Given as goal

abbrev pub invariant-loop-columns : goal.invariant-loop-columns
invariant-loop-columns g l = StaysAtRest g.S.Store l.fn.conn l.conn
    × (is_sound_at g.S.Store l.conn → is_open_at g.S.Store l.fn.conn → is_open_at g.S.Store l.conn)
    × (is_open_at g.S.Store l.conn → l.rows.items
    ≡ map (λ r. planned (plans_at g.S.Store l.fn.conn) (session_in_columns (column r)))
    (take l.columns-index l.shown))
