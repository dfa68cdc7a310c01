use Rattle.std.proofs.Common.{◌≡◌, map, ap, subst, sym, refl, ◌∙◌}
use Rattle.std.specs.List.Sorted.{IsStrictlySortedBy}
use Rattle.sqlite.specs.Held.{state}
use Rattle.sqlite.specs.Effect.{Database}
use Rattle.sqlite_value.specs.Order.{Row, column}
use Rattle.acct_book.specs.Row.{RowFacts}
use Rattle.acct_book.specs.Walk.{AreRowsOf}
use Rattle.acct_sql_tables.specs.Book.{content_at}
use Rattle.acct_book.specs.Content.{key_of}
use Rattle.acct_book.specs.Maps.{key_cmp}
use Rattle.acct_sql_tables.specs.Columns.{session_in_columns}
use Rattle.acct_sql_tables.specs.Content.{plans_in_tables}
use Rattle.acct_sql_tables.specs.Laws.{bare_key}
use Rattle.acct_sql_tables.specs.inner.AtRest.{planned, plans_at, bare_at}
use Rattle.acct_sql_tables.proofs.ListLemmas.{rows_are}
use Rattle.acct_sql_tables.proofs.PlanReadLemmas.{rows_planned, bare_sorted, map_planned}
use Rattle.acct_sql_tables.proofs.TextLemmas as t
use Rattle.acct_sql_tables.proofs.listing.read_sessions.Goals as goal

pub ask-requires-clause-plain : goal.ask-requires-clause-plain
ask-requires-clause-plain g c = t.sessions_of_account.plain

pub returns-then-sessions_ascend-clause-found : goal.returns-then-sessions_ascend-clause-found
returns-then-sessions_ascend-clause-found g c o =
    let old = c.args.conn.now in
    let mid = c.sessions_in.ensures.stays.read.was_open o in
    let early = c.in_ok-shown.ensures.read.read.was_open mid in
    let shown = rw c.params-to_sql.ensures at (c.in_ok-shown.ensures.shown mid.0.0) in
    let plans = plans_at g.S.Store old in
    let read : Row → RowFacts = λ r. session_in_columns (column r) in
    let bare = map read c.in_ok-shown.shown.items in
    let rows = c.in_ok-rows.rows.items in
    let told : rows ≡ map (λ r. planned (plans_at g.S.Store c.ask.new.conn) (read r))
    c.in_ok-shown.shown.items = c.in_ok-rows.ensures.found o
    ∙ ap (map (λ r. planned (plans_at g.S.Store c.ask.new.conn) (read r))) c.deref.ensures.value in
    let there : rows ≡ map (planned plans) bare =
    subst (λ (d : Database). rows ≡ map (λ r. planned (plans_in_tables d.trees) (read r))
    c.in_ok-shown.shown.items) (c.in_ok-shown.ensures.read.tables mid) told
    ∙ map_planned plans read c.in_ok-shown.shown.items in
    let sorted = subst (λ all. IsStrictlySortedBy key_cmp (map key_of all))
    (c.deref-2.ensures.value ∙ there) (c.sessions_ascend.ensures c.if-sessions_ascend.true) in
    subst (AreRowsOf (content_at g.S.Store old) c.args.account.now) (sym there)
    (rows_planned plans (bare_at g.S.Store old) c.args.account.now bare
    (λ key row is. bare_key (state g.S.Store old).now.trees key row is)
    (rows_are g.S.Store old (c.requires.book early.0.0 early.0.1) c.args.account.now
    c.in_ok-shown.shown.items bare shown refl (bare_sorted plans bare sorted)))
