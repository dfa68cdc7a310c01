use Rattle.std.proofs.Common.{arith, []}
use Rattle.sqlite.specs.State.{HasCleanDisk}
use Rattle.sqlite.specs.Held.{state}
use Rattle.acct_sql_tables.specs.declared.older_schema.OlderSchema.TheVariants.{First}
use Rattle.acct_sql_tables.proofs.ReadLemmas.{answered}
use Rattle.acct_sql_tables.proofs.StepLemmas.{quiet_then}
use Rattle.acct_sql_tables.proofs.MigrateLemmas.{plan_tables_over}
use Rattle.acct_sql_upkeep.proofs.migrating.complete_first.Goals as goal

pub returns : goal.returns
returns g c = record {
  quiet = quiet_then g.S.Store _ _ _ (quiet_then g.S.Store _ _ _
      c.define_plan_tables.ensures.quiet c.raise_number.ensures.quiet) c.add_counts.ensures.quiet;
  done = λ clean.
      let two : HasCleanDisk (state g.S.Store c.raise_number.new.tx.conn.now) = omega
      (arith, c.add_counts.ensures.quiet.survives.clean, clean) in
      let one : HasCleanDisk (state g.S.Store c.define_plan_tables.new.tx.conn.now) = omega
      (arith, c.raise_number.ensures.quiet.survives.clean, two) in
      let plans = c.args.plans.now in
      answered c.add_counts.result (λ wrote settled older. wrote plans
      (c.in_ok-raise_number.ensures.done two First plans [] (plan_tables_over plans
      (state g.S.Store c.args.tx.now.conn.now) _
      (c.in_ok-define_plan_tables.ensures.done one older.schema) settled older)))
      (c.add_counts.ensures.done clean);
}
