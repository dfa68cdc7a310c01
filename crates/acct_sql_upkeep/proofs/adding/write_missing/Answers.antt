use Rattle.std.proofs.Common.{rules, arith, ◌≡◌, subst, OnOk, OnErr, IsTrue}
use Rattle.sqlite.specs.State.{HasCleanDisk, Survives}
use Rattle.sqlite.specs.Held.{state}
use Rattle.acct_sql_upkeep.specs.Add.{HasAdded}
use Rattle.acct_sql_tables.specs.inner.Inside.{HasBecome, IsBookOf}
use Rattle.acct_sql_tables.proofs.ReadLemmas.{answered}
use Rattle.acct_sql_upkeep.proofs.BecomeLemmas.{book_of, undone_of, survives_of}
use Rattle.acct_sql_upkeep.proofs.AddLemmas.{added_all}
use Rattle.acct_sql_upkeep.proofs.adding.write_missing.Goals as goal

pub returns-clause-made : goal.returns-clause-made
returns-clause-made g c =
    let old = c.args.conn.now in
    let mid = state g.S.Store c.add_missing-done.new.tx.conn.now in
    let end = c.finish.new.tx.0 in
    let same : end ≡ c.conn-1.given.0 = search rules in
    let added = rw c.transaction-tx.ensures.begun at c.add_missing-done.ensures in
    let some = c.requires.some in
    let filled : HasCleanDisk mid → OnOk c.add_missing-done.result
    (HasBecome (HasAdded c.args.plans.now) mid) = λ clean.
    let early : HasCleanDisk (state g.S.Store old) = omega
    (arith, added.quiet.survives.clean, clean) in
    let o = c.requires.open early in
    answered c.add_missing-done.result (added_all g.S.Store old mid c.args.plans.now
    c.args.prices.now some.0 c.requires.faultless o (c.requires.idle.settled early o)
    (c.requires.book early o) (c.requires.number early o) (c.requires.among early o)
    (c.requires.shown early o) some.1) (added.done clean) in
    subst (λ h. HasCleanDisk (state g.S.Store h) → OnOk c.finish.result
    (IsBookOf (HasAdded c.args.plans.now) (state g.S.Store old).now.trees (state g.S.Store h))) same
    (book_of g.S.Store old end mid (HasAdded c.args.plans.now) c.add_missing-done.result
    c.finish.result c.requires.idle added.quiet.kept filled added.quiet.survives
    c.finish.ensures)

pub returns-clause-undone : goal.returns-clause-undone
returns-clause-undone g c =
    let old = c.args.conn.now in
    let mid = state g.S.Store c.add_missing-done.new.tx.conn.now in
    let end = c.finish.new.tx.0 in
    let same : end ≡ c.conn-1.given.0 = search rules in
    let added = rw c.transaction-tx.ensures.begun at c.add_missing-done.ensures in
    let some = c.requires.some in
    let filled : HasCleanDisk mid → OnOk c.add_missing-done.result
    (HasBecome (HasAdded c.args.plans.now) mid) = λ clean.
    let early : HasCleanDisk (state g.S.Store old) = omega
    (arith, added.quiet.survives.clean, clean) in
    let o = c.requires.open early in
    answered c.add_missing-done.result (added_all g.S.Store old mid c.args.plans.now
    c.args.prices.now some.0 c.requires.faultless o (c.requires.idle.settled early o)
    (c.requires.book early o) (c.requires.number early o) (c.requires.among early o)
    (c.requires.shown early o) some.1) (added.done clean) in
    subst (λ h. HasCleanDisk (state g.S.Store h) → IsTrue (state g.S.Store h).is_open
    → OnErr c.finish.result ((state g.S.Store h).now ≡ (state g.S.Store old).now)) same
    (undone_of g.S.Store old end mid (HasAdded c.args.plans.now) c.add_missing-done.result
    c.finish.result c.requires.idle added.quiet.kept filled added.quiet.survives
    c.finish.ensures)

pub returns-clause-survives : goal.returns-clause-survives
returns-clause-survives g c =
    let old = c.args.conn.now in
    let mid = state g.S.Store c.add_missing-done.new.tx.conn.now in
    let end = c.finish.new.tx.0 in
    let same : end ≡ c.conn-1.given.0 = search rules in
    let added = rw c.transaction-tx.ensures.begun at c.add_missing-done.ensures in
    let some = c.requires.some in
    let filled : HasCleanDisk mid → OnOk c.add_missing-done.result
    (HasBecome (HasAdded c.args.plans.now) mid) = λ clean.
    let early : HasCleanDisk (state g.S.Store old) = omega
    (arith, added.quiet.survives.clean, clean) in
    let o = c.requires.open early in
    answered c.add_missing-done.result (added_all g.S.Store old mid c.args.plans.now
    c.args.prices.now some.0 c.requires.faultless o (c.requires.idle.settled early o)
    (c.requires.book early o) (c.requires.number early o) (c.requires.among early o)
    (c.requires.shown early o) some.1) (added.done clean) in
    subst (λ h. Survives (state g.S.Store old) (state g.S.Store h)
    (HasAdded c.args.plans.now (state g.S.Store old).now.trees)) same
    (survives_of g.S.Store old end mid (HasAdded c.args.plans.now) c.add_missing-done.result
    c.finish.result c.requires.idle added.quiet.kept filled added.quiet.survives
    c.finish.ensures)
