use Rattle.std.proofs.Common.{rules, arith, sym, subst, ◌≡◌, ◌∷◌, [], w64, to_z, of_z}
use Rattle.sqlite.specs.Effect.{Database}
use Rattle.sqlite.specs.State.{HasCleanDisk}
use Rattle.sqlite.specs.Held.{state}
use Rattle.acct_sql_tables.specs.inner.Migrating.{ShowsNext}
use Rattle.acct_sql_tables.proofs.ClassLemmas.{written_on, first_shown, none_shown}
use Rattle.acct_sql_tables.proofs.MigrateLemmas.{all_migrated}
use Rattle.acct_sql_tables.proofs.session_classes.add_next_class.Goals as goal

pub returns-in-Some-clause-written : goal.returns-in-Some-clause-written
returns-in-Some-clause-written g c clean =
    let old = state g.S.Store c.args.tx.now.conn.now in
    let mid = state g.S.Store c.session_after.new.tx.conn.now in
    let there : HasCleanDisk mid = omega (arith, c.add_class.ensures.quiet.survives.clean, clean) in
    let early : HasCleanDisk old = omega
    (arith, c.session_after.ensures.looks.quiet.survives.clean, there) in
    let same = c.in_ok-rows.ensures.looks.done there in
    let written = written_on c.args.plans.now c.args.plans.now c.args.last old mid same
    (c.requires early same.0.was_open) in
    let rows = first_shown c.in_ok-rows.rows.items _ c.in-Some.columns.now c.deref.ensures.value
    c.in-Some.ensures.value in
    let shown = subst (λ (d : Database). ShowsNext c.args.last d.trees
    (c.in-Some.columns.now ∷ rows.0)) (sym same.0.now_is) (subst (ShowsNext c.args.last
    old.now.trees) rows.1 (c.in_ok-rows.ensures.shown there)) in
    let id = c.in_ok-add_class-in-Some.field-0 in
    let back : to_z w64 (of_z w64 id) ≡ id = search rules in
    rw back (c.in_ok-add_class-in-Some.ensures.written clean c.args.last rows.0 written shown)

pub returns-clause-written : goal.returns-clause-written
returns-clause-written g c clean =
    let old = state g.S.Store c.args.tx.now.conn.now in
    let mid = state g.S.Store c.session_after.new.tx.conn.now in
    let early : HasCleanDisk old = omega
    (arith, c.session_after.ensures.looks.quiet.survives.clean, clean) in
    let same = c.in_ok-rows.ensures.looks.done clean in
    let written = written_on c.args.plans.now c.args.plans.now c.args.last old mid same
    (c.requires early same.0.was_open) in
    let none = none_shown c.in_ok-rows.rows.items _ c.deref.ensures.value c.in-None.ensures.value in
    all_migrated c.args.plans.now c.have_no_fault.ensures c.args.last mid written
    (subst (λ (d : Database). ShowsNext c.args.last d.trees []) (sym same.0.now_is)
    (subst (ShowsNext c.args.last old.now.trees) none (c.in_ok-rows.ensures.shown clean)))
