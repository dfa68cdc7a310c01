use Rattle.std.proofs.Common.{arith}
use Rattle.sqlite.specs.State.{HasCleanDisk}
use Rattle.sqlite.specs.Held.{state}
use Rattle.acct_sql_tables.proofs.ReadLemmas.{answered}
use Rattle.acct_sql_tables.proofs.StepLemmas.{quiet_then}
use Rattle.acct_sql_tables.proofs.CreateLemmas.{tables_made}
use Rattle.acct_sql_tables.proofs.new_tables.define_tables.Goals as goal

pub returns : goal.returns
returns g c = record {
  quiet = quiet_then g.S.Store _ _ _ c.define_first_tables.ensures.quiet
      c.define_plan_tables.ensures.quiet;
  done = λ clean.
      let one : HasCleanDisk (state g.S.Store c.define_first_tables.new.tx.conn.now) = omega
      (arith, c.define_plan_tables.ensures.quiet.survives.clean, clean) in
      answered c.define_plan_tables.result (tables_made
      (state g.S.Store c.args.tx.now.conn.now).committed _
      (state g.S.Store c.define_plan_tables.new.tx.conn.now)
      (c.in_ok-define_first_tables.ensures.done one)) (c.define_plan_tables.ensures.done clean);
}
