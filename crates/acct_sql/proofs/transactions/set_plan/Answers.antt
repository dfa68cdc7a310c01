use Rattle.std.proofs.Common.{arith, sym, subst, ◌≡◌, ◌∷◌, [], Ok, List, ℕ}
use Rattle.sqlite.specs.Order.{column}
use Rattle.sqlite.specs.Held.{state}
use Rattle.sqlite.specs.State.{HasCleanDisk, ExecutesInside, Shown}
use Rattle.sqlite.specs.Listing.{understood}
use Rattle.sqlite.specs.declared.types.Value.TheVariants.{Text, Blob}
use Rattle.sqlite.proofs.Callers.{IsPlain}
use Rattle.acct_book.specs.Row.{RowFacts}
use Rattle.acct_sql_tables.specs.Columns.{session_plan_columns}
use Rattle.acct_sql_tables.specs.declared.statements.TheConstants as texts
use Rattle.acct_sql_tables.proofs.StepLemmas.{is_inside, execute_quiet, quiet_then}
use Rattle.acct_sql_tables.proofs.ClassLemmas.{first_shown, none_shown}
use Rattle.acct_sql.proofs.KeptPlanLemmas.{plan_stays, plan_replaced, plan_added}
use Rattle.acct_sql_tables.proofs.TextLemmas as t
use Rattle.acct_sql.proofs.transactions.set_plan.Goals.{in-Some-2, in-None}
use Rattle.acct_sql.proofs.transactions.set_plan.Goals as goal

pub show-requires : goal.show-requires
show-requires g c = λ clean o. subst (λ s. IsPlain (understood s texts.PLAN_OF_SESSION.now))
    (sym (c.requires.book clean o).schema) t.plan_of_session.plain

pub returns-in-Some : goal.returns-in-Some
returns-in-Some g c = record {
  quiet = c.show.ensures.looks.quiet;
  done = λ clean.
      let old = state g.S.Store c.args.tx.now.conn.now in
      let mid = state g.S.Store c.show.new.tx.conn.now in
      let early : HasCleanDisk old = omega
      (arith, c.show.ensures.looks.quiet.survives.clean, clean) in
      let same = c.in_ok-rows.ensures.looks.done clean in
      let shown = rw (
        c.params-to_sql.ensures,
        c.params-to_sql-2.ensures,
        c.as_str.ensures,
        c.as_slice.ensures,
      ) at (c.in_ok-rows.ensures.shown clean) in
      let rows = first_shown c.in_ok-rows.rows.items _ c.in-Some.columns.now c.deref.ensures.value
      c.in-Some.ensures.value in
      plan_stays c.args.row.now old mid c.in_ok-rows.rows.items
      (c.requires.book early same.0.was_open) (c.requires.inside early same.0.was_open) same
      (subst (λ (r : RowFacts). Shown texts.PLAN_OF_SESSION.now (Text r.client
      ∷ Blob r.session ∷ []) old mid c.in_ok-rows.rows.items) c.row.view_is shown)
      c.in-Some.columns.now rows.0 rows.1
      (subst (λ (r : RowFacts). column c.in-Some.columns.now 0 ≡ Blob r.plan) c.row.view_is
      (rw c.as_slice-in-Some-1.ensures at (c.has_blob.ensures.0 c.if-has_blob.true)));
}

pub returns : goal.returns
returns g c = record {
  quiet = quiet_then g.S.Store _ _ _ c.show.ensures.looks.quiet (execute_quiet g.S.Store _ _ _ _ _
      c.execute.ensures.same_reference (λ off. (c.execute.ensures.ended off).1)
      c.execute.ensures.runs c.execute.ensures.survives);
  done = λ clean.
      let old = state g.S.Store c.args.tx.now.conn.now in
      let mid = state g.S.Store c.show.new.tx.conn.now in
      let new = state g.S.Store c.execute.new.self.conn.now in
      let there : HasCleanDisk mid = omega (arith, c.execute.ensures.survives.clean, clean) in
      let early : HasCleanDisk old = omega
      (arith, c.show.ensures.looks.quiet.survives.clean, there) in
      let same = c.in_ok-rows.ensures.looks.done there in
      let book = c.requires.book early same.0.was_open in
      let on = c.requires.inside early same.0.was_open in
      let shown = rw (
        c.params-to_sql.ensures,
        c.params-to_sql-2.ensures,
        c.as_str.ensures,
        c.as_slice.ensures,
      ) at (c.in_ok-rows.ensures.shown there) in
      let shown' = subst (λ (r : RowFacts). Shown texts.PLAN_OF_SESSION.now (Text r.client
      ∷ Blob r.session ∷ []) old mid c.in_ok-rows.rows.items) c.row.view_is shown in
      let count = c.in_ok-execute.field-0 in
      let inside = is_inside _ count _ _ c.in_ok-execute.was
      (λ off. (c.execute.ensures.ended off).0) in
      let ran = rw c.session_plan_values.ensures at (c.in_ok-execute.ensures.runs clean inside) in
      let runs = λ (sql : List ℕ). ExecutesInside 0 sql (session_plan_columns c.args.row.now) mid
      new (Ok count) in
      elim c.match-first.branch [
        | in-Some-2 w ↦
            let rows = first_shown c.in_ok-rows.rows.items _ w.in-Some.columns.now
            c.deref.ensures.value w.in-Some.ensures.value in
            plan_replaced c.args.row.now old mid c.in_ok-rows.rows.items book on same shown' new
            count w.in-Some.columns.now rows.0 rows.1 (subst (λ sql. runs sql.now) w.sql-is ran)
        | in-None w ↦
            plan_added c.args.row.now old mid c.in_ok-rows.rows.items book on same shown' new count
            (none_shown c.in_ok-rows.rows.items _ c.deref.ensures.value w.in-None.ensures.value)
            (subst (λ sql. runs sql.now) w.sql-is ran)
      ];
}
