use Rattle.std.proofs.lemmas.Result.{IfOk-weaker}
use Rattle.acct_sql_tables.proofs.ReadLemmas.{topup_first}
use Rattle.acct_sql_tables.proofs.TextLemmas as t
use Rattle.acct_sql_tables.proofs.queries.read_voucher.Goals as goal

pub first_topup-requires-clause-plain : goal.first_topup-requires-clause-plain
first_topup-requires-clause-plain g c = t.topup_of_number.plain

pub returns-clause-found : goal.returns-clause-found
returns-clause-found g c o =
    let early = c.first_topup.ensures.read.read.was_open o in
    let shown = rw c.params-to_sql.ensures at (c.first_topup.ensures.first o.0.0) in
    IfOk-weaker c.first_topup.result _ _ (λ topup h. topup_first g.S.Store c.args.conn.now
    c.args.number.now topup (c.requires.book early.0.0 early.0.1) h) shown
