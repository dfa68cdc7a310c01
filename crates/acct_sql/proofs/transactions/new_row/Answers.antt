use Rattle.std.proofs.Common.{arith}
use Rattle.sqlite.specs.State.{HasCleanDisk}
use Rattle.sqlite.specs.Held.{state}
use Rattle.acct_sql_tables.proofs.ReadLemmas.{answered}
use Rattle.acct_sql_tables.proofs.StepLemmas.{quiet_then}
use Rattle.acct_sql_tables.proofs.MadeLemmas.{made_with_plan}
use Rattle.acct_sql.proofs.transactions.new_row.Goals as goal

pub new_plan-requires : goal.new_plan-requires
new_plan-requires g c = λ clean o. (c.in_ok-new_columns.ensures.done clean).book

pub returns : goal.returns
returns g c = record {
  quiet = quiet_then g.S.Store _ _ _ c.new_columns.ensures.quiet c.new_plan.ensures.quiet;
  done = λ clean.
      let one : HasCleanDisk (state g.S.Store c.new_columns.new.tx.conn.now) = omega
      (arith, c.new_plan.ensures.quiet.survives.clean, clean) in
      answered c.new_plan.result (made_with_plan c.args.row.now
      (state g.S.Store c.args.tx.now.conn.now) _ (state g.S.Store c.new_plan.new.tx.conn.now)
      (c.in_ok-new_columns.ensures.done one)) (c.new_plan.ensures.done clean);
}
