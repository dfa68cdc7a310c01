use Rattle.sqlite.specs.Held.{state}
use Rattle.acct_sql_tables.proofs.StepLemmas.{is_inside, execute_quiet}
use Rattle.acct_sql_tables.proofs.MigrateLemmas.{number_written}
use Rattle.acct_sql_upkeep.proofs.migrating.raise_number.Goals as goal

pub returns : goal.returns
returns g c = record {
  quiet = execute_quiet g.S.Store _ _ _ _ _ c.execute.ensures.same_reference
      (λ off. (c.execute.ensures.ended off).1) c.execute.ensures.runs c.execute.ensures.survives;
  done = λ clean older plans counts over.
      let inside = is_inside _ c.in_ok-execute.field-0 _ _ c.in_ok-execute.was
      (λ off. (c.execute.ensures.ended off).0) in
      number_written older plans counts (state g.S.Store c.args.tx.now.conn.now) _
      c.in_ok-execute.field-0 (c.in_ok-execute.ensures.runs clean inside) over;
}
