use Rattle.acct_sql_tables.specs.inner.Inside.{CommitsNothing, Holds}
use Rattle.acct_sql_tables.specs.inner.Migrating.{HasWritten}
use Rattle.acct_sql_tables.proofs.session_classes.add_classes.Given as goal

abbrev pub invariant-loop : goal.invariant-loop
invariant-loop g l = CommitsNothing g.S.Store l.fn.tx.conn l.tx.conn
    × Holds g.S.Store (HasWritten l.plans l.plans l.last) l.tx.conn.now
