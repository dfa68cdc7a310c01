use Rattle.std.proofs.Common.{◌≡◌, ap, subst, sym, ◌∙◌, Some}
use Rattle.std.proofs.lemmas.Result.{IfOk-weaker}
use Rattle.sqlite.specs.Order.{column}
use Rattle.sqlite_value.specs.Order.{bytes}
use Rattle.acct_book.specs.declared.key.Key.{Key}
use Rattle.acct_book.specs.Row.{RowFacts}
use Rattle.acct_book.specs.Content.{key_of}
use Rattle.acct_sql_tables.specs.inner.AtRest.{plans_at}
use Rattle.acct_sql_tables.proofs.ReadLemmas.{first_is}
use Rattle.acct_sql_tables.proofs.PlanReadLemmas.{plan_shown}
use Rattle.acct_sql_tables.proofs.TextLemmas as t
use Rattle.acct_sql_tables.proofs.queries.plan_of_session.Goals as goal

pub ask-requires-clause-plain : goal.ask-requires-clause-plain
ask-requires-clause-plain g c = t.plan_of_session.plain

pub returns-clause-found : goal.returns-clause-found
returns-clause-found g c o =
    let early = c.in_ok-rows.ensures.read.read.was_open o in
    let shown = rw (
      c.params-to_sql.ensures,
      c.params-to_sql-2.ensures,
      c.as_str.ensures,
      c.as_slice.ensures,
    ) at (c.in_ok-rows.ensures.shown o.0.0) in
    let key : Key = record { client = c.row.inside.client; session = c.row.inside.session } in
    IfOk-weaker c.plan_class_at.result _ _ (λ class is.
    subst (λ (r : RowFacts). plans_at g.S.Store c.args.conn.now (key_of r) ≡ Some class)
    c.row.view_is (sym (first_is (λ r. bytes (column r 0)) _ _ (Some c.in-Some.columns.now) _
    c.deref.ensures.value c.in-Some.ensures.value (plan_shown g.S.Store c.args.conn.now key _
    (c.requires.book early.0.0 early.0.1) shown)) ∙ ap Some (sym is))) c.plan_class_at.ensures
