use Rattle.std.proofs.Common.{ap, ◌∙◌, Some, None, unwrap_or, pos}
use Rattle.std.proofs.lemmas.Result.{IfOk-weaker}
use Rattle.sqlite.specs.Order.{column}
use Rattle.acct_sql_tables.specs.Columns.{int_in}
use Rattle.acct_sql_tables.proofs.ReadLemmas.{balance_shown, first_is}
use Rattle.acct_sql_tables.proofs.TextLemmas as t
use Rattle.acct_sql_tables.proofs.queries.read_balance.Goals as goal

pub ask-requires-clause-plain : goal.ask-requires-clause-plain
ask-requires-clause-plain g c = t.balance_of_account.plain

pub returns-in-None-clause-found : goal.returns-in-None-clause-found
returns-in-None-clause-found g c o =
    let early = c.in_ok-rows.ensures.read.read.was_open o in
    let shown = rw c.params-to_sql.ensures at (c.in_ok-rows.ensures.shown o.0.0) in
    ap (λ o. unwrap_or o (pos 0)) (first_is (λ r. int_in (column r 0)) _ _ None _
    c.deref.ensures.value c.in-None.ensures.value (balance_shown g.S.Store c.args.conn.now
    c.args.account.now _ (c.requires.book early.0.0 early.0.1) shown))

pub returns-clause-found : goal.returns-clause-found
returns-clause-found g c o =
    let early = c.in_ok-rows.ensures.read.read.was_open o in
    let shown = rw c.params-to_sql.ensures at (c.in_ok-rows.ensures.shown o.0.0) in
    IfOk-weaker c.balance_at.result _ _ (λ n is. is ∙ ap (λ o. unwrap_or o (pos 0))
    (first_is (λ r. int_in (column r 0)) _ _ (Some c.in-Some.row.now) _ c.deref.ensures.value
    c.in-Some.ensures.value (balance_shown g.S.Store c.args.conn.now c.args.account.now _
    (c.requires.book early.0.0 early.0.1) shown))) c.balance_at.ensures
