use Rattle.std.proofs.Common.{option_map, ap, sym, ◌∙◌}
use Rattle.std.proofs.lemmas.Result.{IfOk-weaker}
use Rattle.sqlite.specs.Held.{state}
use Rattle.acct_sql_tables.specs.Content.{with_plan}
use Rattle.acct_sql_tables.specs.Laws.{bare_key}
use Rattle.acct_sql_tables.specs.inner.AtRest.{plans_at}
use Rattle.acct_sql_tables.proofs.ReadLemmas.{session_first}
use Rattle.acct_sql_tables.proofs.PlanReadLemmas.{row_planned}
use Rattle.acct_sql_tables.proofs.TextLemmas as t
use Rattle.acct_sql_tables.proofs.queries.read_session.Goals as goal

pub first_session-requires-clause-plain : goal.first_session-requires-clause-plain
first_session-requires-clause-plain g c = t.session_of_key.plain

pub returns-clause-found : goal.returns-clause-found
returns-clause-found g c o =
    let early = c.first_session.ensures.read.read.was_open o in
    let key = c.args.key.now in
    let shown = rw (
      c.params-to_sql.ensures,
      c.params-to_sql-2.ensures,
      c.as_str.ensures,
      c.as_slice.ensures,
    ) at (c.first_session.ensures.first o) in
    IfOk-weaker c.first_session.result _ _ (λ row h.
    let bare = session_first g.S.Store c.args.conn.now key h.0
    (c.requires.book early.0.0 early.0.1) h.1 in
    h.2 ∙ (row_planned (plans_at g.S.Store c.args.conn.now) key h.0
    (λ one is. bare_key (state g.S.Store c.args.conn.now).now.trees key one (sym bare ∙ is))
    ∙ ap (option_map (with_plan (plans_at g.S.Store c.args.conn.now key))) bare)) shown
