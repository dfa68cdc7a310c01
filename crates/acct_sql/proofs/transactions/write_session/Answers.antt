use Rattle.std.proofs.Common.{rules, ◌≡◌, subst, w64}
use Rattle.std.proofs.lemmas.Int.{to_z-of_z}
use Rattle.sqlite.specs.Held.{state}
use Rattle.acct_book.specs.Content.{with_session, Content}
use Rattle.acct_sql_tables.specs.inner.AtRest.{WritesAtRest}
use Rattle.acct_sql_tables.proofs.CommitLemmas.{writes_at_rest}
use Rattle.acct_sql.proofs.transactions.write_session.Goals as goal

pub returns : goal.returns
returns g c =
    let old = c.args.conn.now in
    let mid = state g.S.Store c.set_session-done.new.tx.conn.now in
    let end = c.finish.new.tx.0 in
    let change : Content → Content = λ content. with_session content c.args.row.now c.args.balance
    in
    let same : end ≡ c.conn-1.given.0 = search rules in
    let back = to_z-of_z w64 c.args.balance c.ranges.balance in
    let made = rw (c.transaction-tx.ensures.begun, back) at c.set_session-done.ensures in
    subst (λ h. WritesAtRest g.S.Store old h change c.finish.result) same
    (writes_at_rest g.S.Store old end mid change c.set_session-done.result c.finish.result
    c.requires.resting
    made.quiet.kept made.done made.quiet.survives c.finish.ensures)
