use Rattle.std.proofs.Common.{ap, subst, sym}
use Rattle.std.specs.Option.{option_copied}
use Rattle.std.proofs.lemmas.Result.{IfOk-weaker}
use Rattle.acct_book.specs.Walk.{IsNextRow}
use Rattle.acct_sql_tables.specs.Book.{content_at}
use Rattle.acct_sql_tables.specs.inner.AtRest.{plans_at, bare_at}
use Rattle.acct_sql_tables.proofs.WalkLemmas.{is_first_session}
use Rattle.acct_sql_tables.proofs.PlanReadLemmas.{next_planned}
use Rattle.acct_sql_tables.proofs.TextLemmas as t
use Rattle.acct_sql_tables.proofs.queries.read_next_session.Goals as goal

pub first_session-requires-clause-plain : goal.first_session-requires-clause-plain
first_session-requires-clause-plain g c = t.first_session.plain

pub returns-in-None-clause-found : goal.returns-in-None-clause-found
returns-in-None-clause-found g c o =
    let early = c.first_session.ensures.read.read.was_open o in
    IfOk-weaker c.first_session.result _ _ (λ row h.
    subst (IsNextRow (content_at g.S.Store c.args.conn.now) (option_copied c.args.after)) (sym h.2)
    (next_planned (plans_at g.S.Store c.args.conn.now) (bare_at g.S.Store c.args.conn.now)
    (option_copied c.args.after) h.0 (is_first_session g.S.Store c.args.conn.now
    (c.requires.book early.0.0 early.0.1) h.0 (option_copied c.args.after)
    (ap option_copied c.in-None.is) h.1))) (c.first_session.ensures.first o)
