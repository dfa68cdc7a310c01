use Rattle.std.proofs.Common.{ap}
use Rattle.std.specs.Option.{option_copied}
use Rattle.std.proofs.lemmas.Result.{IfOk-weaker}
use Rattle.acct_sql_tables.proofs.WalkLemmas.{is_first_topup}
use Rattle.acct_sql_tables.proofs.WalkLemmas.{is_next_topup}
use Rattle.acct_sql_tables.proofs.TextLemmas as t
use Rattle.acct_sql_tables.proofs.queries.read_next_topup.Goals as goal

pub first_topup-requires-clause-plain : goal.first_topup-requires-clause-plain
first_topup-requires-clause-plain g c = t.first_topup.plain

pub first_topup-requires-in-Some-clause-plain : goal.first_topup-requires-in-Some-clause-plain
first_topup-requires-in-Some-clause-plain g c = t.topup_after.plain

pub returns-in-None-clause-found : goal.returns-in-None-clause-found
returns-in-None-clause-found g c o =
    let early = c.first_topup.ensures.read.read.was_open o in
    IfOk-weaker c.first_topup.result _ _ (λ topup h. is_first_topup g.S.Store c.args.conn.now
    (c.requires.book early.0.0 early.0.1) topup (option_copied c.args.after)
    (ap option_copied c.in-None.is) h) (c.first_topup.ensures.first o.0.0)

pub returns-in-Some-clause-found : goal.returns-in-Some-clause-found
returns-in-Some-clause-found g c o =
    let early = c.first_topup-in-Some.ensures.read.read.was_open o in
    let shown = rw c.params-to_sql.ensures at (c.first_topup-in-Some.ensures.first o.0.0) in
    IfOk-weaker c.first_topup-in-Some.result _ _ (λ topup h. is_next_topup g.S.Store c.args.conn.now
    (c.requires.book early.0.0 early.0.1) topup (option_copied c.args.after)
    c.in-Some.number.now (ap option_copied c.in-Some.is) h) shown
