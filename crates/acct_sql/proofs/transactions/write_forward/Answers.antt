use Rattle.std.proofs.Common.{rules, ◌≡◌, subst}
use Rattle.sqlite.specs.Held.{state}
use Rattle.acct_book.specs.Content.{Content, with_forward}
use Rattle.acct_sql_tables.specs.inner.AtRest.{WritesAtRest}
use Rattle.acct_sql_tables.proofs.CommitLemmas.{writes_at_rest}
use Rattle.acct_sql.proofs.transactions.write_forward.Goals as goal

pub returns : goal.returns
returns g c =
    let old = c.args.conn.now in
    let mid = state g.S.Store c.set_forward-done.new.tx.conn.now in
    let end = c.finish.new.tx.0 in
    let change : Content → Content = λ content.
    with_forward content c.args.gone.now c.args.row.now in
    let same : end ≡ c.conn-1.given.0 = search rules in
    let made = rw c.transaction-tx.ensures.begun at c.set_forward-done.ensures in
    subst (λ h. WritesAtRest g.S.Store old h change c.finish.result) same
    (writes_at_rest g.S.Store old end mid change c.set_forward-done.result c.finish.result
    c.requires made.quiet.kept made.done made.quiet.survives c.finish.ensures)
