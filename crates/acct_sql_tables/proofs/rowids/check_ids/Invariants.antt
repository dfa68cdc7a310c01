use Rattle.std.proofs.Common.{◌≡◌}
use Rattle.acct_sql_tables.proofs.RisingLemmas.{HasRisen}
use Rattle.acct_sql_tables.proofs.rowids.check_ids.Given as goal

abbrev pub invariant-loop : goal.invariant-loop
invariant-loop g l = (l.rows.conn.ghost_name ≡ l.initial.rows.conn.ghost_name)
    × HasRisen g.S.Store l.sql l.fn.conn l.rows.conn.now l.last
