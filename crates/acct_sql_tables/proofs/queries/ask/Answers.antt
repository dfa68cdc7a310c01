use Rattle.std.proofs.Common.{rules, arith, ◌≡◌, subst, sym, IsTrue}
use Rattle.std.proofs.lemmas.Result.{IfOk-weaker}
use Rattle.sqlite.specs.State.{HasCleanDisk}
use Rattle.sqlite.specs.Held.{state}
use Rattle.acct_sql_tables.specs.inner.AtRest.{ReadsAtRest}
use Rattle.acct_sql_tables.proofs.CommitLemmas.{writes_at_rest, tables_stay}
use Rattle.acct_sql_tables.proofs.ReadLemmas.{if_same, read_of}
use Rattle.acct_sql_tables.proofs.queries.ask.Goals as goal

pub returns-clause-shown : goal.returns-clause-shown
returns-clause-shown g c clean =
    let mid = c.look-rows.new.tx.conn.now in
    let end = c.finish_rows.new.tx.0 in
    let same : end ≡ c.conn-1.given.0 = search rules in
    let late : HasCleanDisk (state g.S.Store end) = subst (λ h. HasCleanDisk (state g.S.Store h))
    (sym same) clean in
    let early : HasCleanDisk (state g.S.Store mid) = omega
    (arith, c.finish_rows.ensures.finished.survives.clean, late) in
    let shown = rw c.transaction-tx.ensures.begun at (c.look-rows.ensures.shown early) in
    if_same c.finish_rows.result c.look-rows.result _ c.finish_rows.ensures.same
    (IfOk-weaker c.look-rows.result _ _ (λ rows h. (mid, h)) shown)

pub returns-clause-read : goal.returns-clause-read
returns-clause-read g c =
    let old = c.args.conn.now in
    let mid = state g.S.Store c.look-rows.new.tx.conn.now in
    let end = c.finish_rows.new.tx.0 in
    let same : end ≡ c.conn-1.given.0 = search rules in
    let looks = rw c.transaction-tx.ensures.begun at c.look-rows.ensures.looks in
    let stays = rw c.transaction-tx.ensures.begun at c.look-rows.ensures.stays in
    let law : IsTrue (state g.S.Store old).is_open
    → (state g.S.Store old).may_leave (state g.S.Store old).committed.trees = search rules in
    let wrote = writes_at_rest g.S.Store old end mid (λ content. content) c.look-rows.result
    c.finish_rows.result c.requires.resting looks.quiet.kept looks.done looks.quiet.survives
    c.finish_rows.ensures.finished in
    subst (λ h. ReadsAtRest g.S.Store old h c.finish_rows.result) same
    (read_of g.S.Store old end c.finish_rows.result c.requires.resting law
    (tables_stay g.S.Store old end mid (λ content. content) c.look-rows.result
    c.finish_rows.result c.requires.resting looks.quiet.kept looks.done looks.quiet.survives
    c.finish_rows.ensures.finished stays) wrote)
