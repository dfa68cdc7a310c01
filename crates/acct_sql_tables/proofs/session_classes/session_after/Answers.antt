use Rattle.std.proofs.Common.{rules, arith, sym, subst, w64, to_z, of_z, ◌≡◌}
use Rattle.std.proofs.lemmas.Result.{IfOk-weaker}
use Rattle.sqlite.specs.State.{HasCleanDisk}
use Rattle.sqlite.specs.Held.{state}
use Rattle.sqlite.specs.Listing.{understood}
use Rattle.sqlite.proofs.Callers.{IsPlain}
use Rattle.acct_sql_tables.specs.inner.Migrating.{ShowsNext}
use Rattle.acct_sql_tables.specs.declared.statements.TheConstants as texts
use Rattle.acct_sql_tables.proofs.ClassLemmas.{next_first, next_after}
use Rattle.acct_sql_tables.proofs.ReadLemmas.{shown_open}
use Rattle.acct_sql_tables.proofs.TextLemmas as t
use Rattle.acct_sql_tables.proofs.session_classes.session_after.Goals as goal

pub show-requires : goal.show-requires
show-requires g c = λ clean o. subst (λ s. IsPlain (understood s texts.CLASS_AFTER.now))
    (sym (c.requires clean o).schema) t.class_after.plain

pub show-requires-in-None : goal.show-requires-in-None
show-requires-in-None g c = λ clean o. subst (λ s. IsPlain (understood s texts.FIRST_CLASS.now))
    (sym (c.requires clean o).schema) t.first_class.plain

pub returns-in-Some-clause-shown : goal.returns-in-Some-clause-shown
returns-in-Some-clause-shown g c clean =
    let old = state g.S.Store c.args.tx.now.conn.now in
    let early : HasCleanDisk old = omega (arith, c.show.ensures.looks.quiet.survives.clean, clean)
    in
    let back : to_z w64 (of_z w64 c.in-Some.id) ≡ c.in-Some.id = search rules in
    let shown = rw (c.params-to_sql.ensures, back) at (c.show.ensures.shown clean) in
    IfOk-weaker c.show.result _ _ (λ rows h. subst (λ last. ShowsNext last old.now.trees rows.items)
    (sym c.in-Some.is) (next_after old _ rows.items
    (c.requires early (shown_open _ _ _ _ _ h).0) c.in-Some.id h)) shown

pub returns-in-None-clause-shown : goal.returns-in-None-clause-shown
returns-in-None-clause-shown g c clean =
    let old = state g.S.Store c.args.tx.now.conn.now in
    let early : HasCleanDisk old = omega
    (arith, c.show-in-None.ensures.looks.quiet.survives.clean, clean) in
    IfOk-weaker c.show-in-None.result _ _
    (λ rows h. subst (λ last. ShowsNext last old.now.trees rows.items) (sym c.in-None.is)
    (next_first old _ rows.items (c.requires early (shown_open _ _ _ _ _ h).0) h))
    (c.show-in-None.ensures.shown clean)
