use Rattle.std.proofs.Common.{rules, arith}
use Rattle.sqlite.specs.State.{HasCleanDisk}
use Rattle.sqlite.specs.Held.{state}
use Rattle.acct_sql_tables.proofs.StepLemmas.{is_inside, execute_quiet}
use Rattle.acct_sql_tables.proofs.MadeLemmas.{made_closed}
use Rattle.acct_sql.proofs.transactions.close_rows.Goals as goal

pub returns-in_err-execute : goal.returns-in_err-execute
returns-in_err-execute g c = record {
  quiet = execute_quiet g.S.Store _ _ _ _ _ c.execute.ensures.same_reference
      (λ off. (c.execute.ensures.ended off).1) c.execute.ensures.runs c.execute.ensures.survives;
  done = λ clean. search rules;
}

pub returns : goal.returns
returns g c = record {
  quiet = execute_quiet g.S.Store _ _ _ _ _ c.execute.ensures.same_reference
      (λ off. (c.execute.ensures.ended off).1) c.execute.ensures.runs c.execute.ensures.survives;
  done = λ clean.
      let early : HasCleanDisk (state g.S.Store c.args.tx.now.conn.now) = omega
      (arith, c.execute.ensures.survives.clean, clean) in
      let inside = is_inside _ c.in_ok-execute.field-0 _ _ c.in_ok-execute.was
      (λ off. (c.execute.ensures.ended off).0) in
      let first = rw c.params-to_sql.ensures at (c.in_ok-execute.ensures.runs clean inside) in
      made_closed c.args.client.now (state g.S.Store c.args.tx.now.conn.now) _
      c.in_ok-execute.field-0 (c.requires early) first;
}
