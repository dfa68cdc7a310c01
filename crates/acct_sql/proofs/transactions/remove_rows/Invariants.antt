use Rattle.std.proofs.Common.{Ok, take, ℕ, IsTrue}
use Rattle.acct_sql_tables.specs.inner.Inside.{RunsInside, HasRemoved}
use Rattle.acct_sql.proofs.transactions.remove_rows.Given as goal

abbrev pub invariant-loop-key : goal.invariant-loop-key
invariant-loop-key g l = RunsInside {T = ℕ} {E = ℕ} g.S.Store l.fn.tx.conn l.tx.conn
    (λ old new. IsTrue new.is_open → HasRemoved (take l.key-index l.keys) old new) (Ok 0)
