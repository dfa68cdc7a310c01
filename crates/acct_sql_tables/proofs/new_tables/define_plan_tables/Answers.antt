use Rattle.std.proofs.Common.{arith}
use Rattle.sqlite.specs.State.{HasCleanDisk}
use Rattle.sqlite.specs.Held.{state}
use Rattle.acct_sql_tables.proofs.ReadLemmas.{answered}
use Rattle.acct_sql_tables.proofs.StepLemmas.{quiet_then}
use Rattle.acct_sql_tables.proofs.CreateLemmas.{plan_tables_made}
use Rattle.acct_sql_tables.proofs.new_tables.define_plan_tables.Goals as goal

pub returns : goal.returns
returns g c = record {
  quiet = quiet_then g.S.Store _ _ _ c.define.ensures.quiet c.define-2.ensures.quiet;
  done = λ clean.
      let one : HasCleanDisk (state g.S.Store c.define.new.tx.conn.now) = omega
      (arith, c.define-2.ensures.quiet.survives.clean, clean) in
      answered c.define-2.result (λ last has. plan_tables_made
      (state g.S.Store c.args.tx.now.conn.now) _ (state g.S.Store c.define-2.new.tx.conn.now)
      (c.in_ok-define.ensures.done one) last has) (c.define-2.ensures.done clean);
}
