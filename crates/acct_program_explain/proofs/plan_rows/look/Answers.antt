use Rattle.std.proofs.Common.{rules, ◌≡◌, subst, refl, true}
use Rattle.sqlite.specs.Held.{state}
use Rattle.acct_sql_tables.specs.Look.{LooksAtTables}
use Rattle.acct_sql_tables.proofs.ReadLemmas.{look_kept}
use Rattle.acct_program_explain.proofs.LookLemmas.{let_fall}
use Rattle.acct_program_explain.proofs.plan_rows.look.Goals as goal

pub returns : goal.returns
returns g c =
    let same : c.drop-tx.new.self.0 ≡ c.conn-1.given.0 = search rules in
    let inside = rw c.transaction-tx.ensures.begun at c.query_all.ensures.survives in
    let ok = rw c.transaction-tx.ensures.begun at c.query_all.ensures.ok in
    let err = rw c.transaction-tx.ensures.begun at c.query_all.ensures.err in
    subst (λ h. LooksAtTables (state g.S.Store c.args.conn.now) (state g.S.Store h)) same
    (let_fall g.S.Store c.args.conn.now c.drop-tx.new.self.0
    (state g.S.Store c.query_all.new.self.conn.now) c.requires inside
    c.drop-tx.ensures.survives c.drop-tx.ensures.undone c.drop-tx.ensures.ended
    (λ clean o.
    let k = look_kept _ _ (state g.S.Store (record c.args.conn.now { in_transaction = true }))
    (state g.S.Store c.query_all.new.self.conn.now) (λ rows. rows.items)
    c.query_all.result refl (ok clean) (err clean) in
    (k.was_open o, k.committed o)))
