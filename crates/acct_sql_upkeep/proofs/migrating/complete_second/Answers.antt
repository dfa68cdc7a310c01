use Rattle.std.proofs.Common.{arith}
use Rattle.sqlite.specs.State.{HasCleanDisk}
use Rattle.sqlite.specs.Held.{state}
use Rattle.acct_sql_tables.specs.declared.older_schema.OlderSchema.TheVariants.{Second}
use Rattle.acct_sql_tables.proofs.ReadLemmas.{answered}
use Rattle.acct_sql_tables.proofs.StepLemmas.{quiet_then}
use Rattle.acct_sql_tables.proofs.MigrateLemmas.{session_plans_over}
use Rattle.acct_sql_upkeep.proofs.migrating.complete_second.Goals as goal

pub returns : goal.returns
returns g c = record {
  quiet = quiet_then g.S.Store _ _ _ c.define_session_plans.ensures.quiet
      c.raise_number.ensures.quiet;
  done = λ clean.
      let one : HasCleanDisk (state g.S.Store c.define_session_plans.new.tx.conn.now) = omega
      (arith, c.raise_number.ensures.quiet.survives.clean, clean) in
      answered c.raise_number.result (λ wrote plans settled older. wrote Second plans plans
      (session_plans_over plans (state g.S.Store c.args.tx.now.conn.now) _
      (c.in_ok-define_session_plans.ensures.done one older.schema) settled older))
      (c.raise_number.ensures.done clean);
}
