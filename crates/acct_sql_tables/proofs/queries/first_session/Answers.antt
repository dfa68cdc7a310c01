use Rattle.std.proofs.Common.{Some, None, sym, refl, ap, subst}
use Rattle.sqlite.specs.Order.{column}
use Rattle.sqlite.specs.Effect.{Database}
use Rattle.acct_sql_tables.specs.Columns.{session_in_columns}
use Rattle.acct_sql_tables.specs.Content.{plans_in_tables}
use Rattle.acct_sql_tables.specs.inner.AtRest.{HasPlan}
use Rattle.acct_sql_tables.proofs.ReadLemmas.{first_is}
use Rattle.acct_sql_tables.proofs.queries.first_session.Goals as goal

pub returns-in-None-clause-first : goal.returns-in-None-clause-first
returns-in-None-clause-first g c o = (
  None,
  (
    c.in_ok-rows.rows.items,
    c.in_ok-rows.ensures.shown o.0.0,
    sym (first_is (λ r. session_in_columns (column r)) _ _ None _ c.deref.ensures.value
        c.in-None.ensures.value refl),
  ),
  refl,
)

pub returns-clause-first : goal.returns-clause-first
returns-clause-first g c o =
    let mid = c.session_with_plan.ensures.read.read.was_open o in
    let same = c.in_ok-rows.ensures.read.tables mid in
    let row = c.in_ok-session_with_plan-in-Some.field-0 in
    let bare = session_in_columns (column c.in-Some.columns.now) in (
      Some bare,
      (
        c.in_ok-rows.rows.items,
        c.in_ok-rows.ensures.shown mid.0.0,
        sym (first_is (λ r. session_in_columns (column r)) _ _ (Some c.in-Some.columns.now) _
            c.deref.ensures.value c.in-Some.ensures.value refl),
      ),
      ap Some (subst (λ (d : Database). HasPlan (plans_in_tables d.trees) bare row) same
          (c.in_ok-session_with_plan-in-Some.ensures.found o)),
    )
