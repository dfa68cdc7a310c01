use Rattle.std.proofs.Common.{rules, ◌≡◌, subst, OnOk}
use Rattle.sqlite.specs.State.{HasCleanDisk, Survives}
use Rattle.sqlite.specs.Held.{state}
use Rattle.acct_sql_tables.specs.Make.{IsNew}
use Rattle.acct_sql_tables.specs.inner.NewBook.{IsNewBook}
use Rattle.acct_sql_tables.proofs.CreateLemmas.{new_book, made_survives}
use Rattle.acct_sql_tables.proofs.new_tables.make_book.Goals as goal

pub returns-clause-made : goal.returns-clause-made
returns-clause-made g c =
    let old = c.args.conn.now in
    let end = c.finish.new.tx.0 in
    let same : end ≡ c.conn-1.given.0 = search rules in
    let filled = rw (c.transaction-tx.ensures.begun, c.list.ensures) at c.fill-done.ensures in
    subst (λ h. HasCleanDisk (state g.S.Store h) → OnOk c.finish.result
    (IsNewBook c.args.plans.now (state g.S.Store h))) same
    (new_book g.S.Store old end (state g.S.Store c.fill-done.new.tx.conn.now) c.args.plans.now
    c.have_no_fault.ensures c.fill-done.result c.finish.result filled.quiet.kept filled.done
    filled.quiet.survives c.finish.ensures)

pub returns-clause-survives : goal.returns-clause-survives
returns-clause-survives g c =
    let old = c.args.conn.now in
    let end = c.finish.new.tx.0 in
    let same : end ≡ c.conn-1.given.0 = search rules in
    let filled = rw (c.transaction-tx.ensures.begun, c.list.ensures) at c.fill-done.ensures in
    subst (λ h. Survives (state g.S.Store old) (state g.S.Store h) (IsNew c.args.plans.now)) same
    (made_survives g.S.Store old end (state g.S.Store c.fill-done.new.tx.conn.now)
    c.args.plans.now c.have_no_fault.ensures
    c.fill-done.result c.finish.result filled.quiet.kept filled.done
    filled.quiet.survives c.finish.ensures)
