use Rattle.std.proofs.Common.{option_map, subst, sym}
use Rattle.std.proofs.lemmas.Result.{IfOk-weaker}
use Rattle.acct_book.specs.Content.{Content}
use Rattle.acct_book.specs.Maps.{key_cmp}
use Rattle.acct_sql_tables.specs.Book.{content_at}
use Rattle.acct_sql_tables.specs.inner.AtRest.{plans_at, bare_at}
use Rattle.acct_sql_tables.specs.inner.Next.{IsLeast, IsWithin, IsBeyond}
use Rattle.acct_sql_tables.proofs.WalkLemmas.{is_within, is_beyond}
use Rattle.acct_sql_tables.proofs.WalkLemmas.{within_next, beyond_next, keyed_row}
use Rattle.acct_sql_tables.proofs.PlanReadLemmas.{least_planned}
use Rattle.acct_sql_tables.proofs.TextLemmas as t
use Rattle.acct_sql_tables.proofs.queries.session_after.Goals as goal

pub first_session-requires-clause-plain : goal.first_session-requires-clause-plain
first_session-requires-clause-plain g c = t.later_session_of_client.plain

pub first_session-requires-in-None-clause-plain : goal.first_session-requires-in-None-clause-plain
first_session-requires-in-None-clause-plain g c = t.session_of_later_client.plain

pub returns-in-Some-clause-found : goal.returns-in-Some-clause-found
returns-in-Some-clause-found g c o =
    let early = c.in_ok-row.ensures.read.read.was_open o in
    let shown = rw (
      c.params-to_sql.ensures,
      c.params-to_sql-2.ensures,
      c.as_str-client.ensures,
      c.as_slice.ensures,
    ) at (c.in_ok-row.ensures.first o) in
    let bare = is_within g.S.Store c.args.conn.now (c.requires.book early.0.0 early.0.1)
    shown.0 c.args.key.now shown.1 in
    let near = subst (λ r. IsLeast key_cmp (content_at g.S.Store c.args.conn.now).rows
    (IsWithin c.args.key.now) (option_map keyed_row r)) (sym shown.2)
    (least_planned (plans_at g.S.Store c.args.conn.now)
    (bare_at g.S.Store c.args.conn.now).rows (IsWithin c.args.key.now) shown.0 bare) in
    within_next (content_at g.S.Store c.args.conn.now).rows c.args.key.now _ c.in-Some.row
    (subst (λ r. IsLeast key_cmp (content_at g.S.Store c.args.conn.now).rows
    (IsWithin c.args.key.now) (option_map keyed_row r)) c.in-Some.is near)

pub returns-in-None-clause-found : goal.returns-in-None-clause-found
returns-in-None-clause-found g c o =
    let mid = c.first_session-in-None.ensures.read.read.was_open o in
    let early = c.in_ok-row.ensures.read.read.was_open mid in
    let same = c.in_ok-row.ensures.read.read.same mid in
    let first = rw (
      c.params-to_sql.ensures,
      c.params-to_sql-2.ensures,
      c.as_str-client.ensures,
      c.as_slice.ensures,
    ) at (c.in_ok-row.ensures.first mid) in
    let bare = is_within g.S.Store c.args.conn.now (c.requires.book early.0.0 early.0.1)
    first.0 c.args.key.now first.1 in
    let near = subst (λ r. IsLeast key_cmp (content_at g.S.Store c.args.conn.now).rows
    (IsWithin c.args.key.now) (option_map keyed_row r)) (sym first.2)
    (least_planned (plans_at g.S.Store c.args.conn.now)
    (bare_at g.S.Store c.args.conn.now).rows (IsWithin c.args.key.now) first.0 bare) in
    let none = subst (λ r. IsLeast key_cmp (content_at g.S.Store c.args.conn.now).rows
    (IsWithin c.args.key.now) (option_map keyed_row r)) c.in-None.is near in
    let second = rw (c.params-to_sql-in-None.ensures, c.as_str-client.ensures) at
    (c.first_session-in-None.ensures.first o) in
    let now = c.first_session.new.conn in
    IfOk-weaker c.first_session-in-None.result _ _ (λ row h.
    beyond_next (content_at g.S.Store c.args.conn.now).rows c.args.key.now
    (option_map keyed_row row) none
    (subst (λ (content : Content). IsLeast key_cmp content.rows (IsBeyond c.args.key.now.client)
    (option_map keyed_row row)) same (subst (λ r. IsLeast key_cmp (content_at g.S.Store now).rows
    (IsBeyond c.args.key.now.client) (option_map keyed_row r)) (sym h.2)
    (least_planned (plans_at g.S.Store now)
    (bare_at g.S.Store now).rows (IsBeyond c.args.key.now.client) h.0
    (is_beyond g.S.Store now (c.in_ok-row.ensures.read.resting.book mid.0.0 mid.0.1) h.0
    c.args.key.now.client h.1))))) second
