use Rattle.std.proofs.Common.{rules, sym, subst, ◌≡◌, ◌∷◌, [], Ok, w64, to_z, of_z}
use Rattle.sqlite.specs.Held.{state}
use Rattle.sqlite.specs.State.{ExecutesInside}
use Rattle.sqlite_value.specs.declared.value.Value.TheVariants.{Text, Blob}
use Rattle.acct_book.specs.Charge.{class_of_plan}
use Rattle.acct_sql_tables.specs.declared.statements.TheConstants as texts
use Rattle.acct_sql_tables.proofs.StepLemmas.{is_inside}
use Rattle.acct_sql_tables.proofs.MigrateLemmas.{class_written}
use Rattle.acct_sql_tables.proofs.session_classes.add_class.Goals as goal

pub returns-clause-written : goal.returns-clause-written
returns-clause-written g c clean = λ last more w shown.
    let old = state g.S.Store c.args.tx.now.conn.now in
    let new = state g.S.Store c.execute.new.self.conn.now in
    let names = c.in_ok-client in
    let inside = is_inside _ c.in_ok-execute.field-0 _ _ c.in_ok-execute.was
    (λ off. (c.execute.ensures.ended off).0) in
    let ran = rw c.as_slice.ensures at (c.in_ok-execute.ensures.runs clean inside) in
    let found = c.plan_of-plan.ensures.found in
    let back : to_z w64 (of_z w64 c.in-Some.id) ≡ c.in-Some.id = search rules in
    rw back (class_written c.args.plans.now last c.args.columns.now more c.in-Some.id
    names.client.now
    names.session.now names.class.now old new c.in_ok-execute.field-0 c.in-Some.ensures
    names.ensures.client names.ensures.session names.ensures.class
    (subst (λ p. ExecutesInside 0 texts.NEW_SESSION_PLAN.now
    (Text names.client.now ∷ Blob names.session.now ∷ Blob (class_of_plan p) ∷ []) old new
    (Ok c.in_ok-execute.field-0)) (sym found) ran) shown w)
