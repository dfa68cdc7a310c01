use Rattle.std.proofs.Common.{arith}
use Rattle.sqlite.specs.State.{HasCleanDisk}
use Rattle.sqlite.specs.Held.{state}
use Rattle.acct_sql_tables.proofs.ReadLemmas.{answered}
use Rattle.acct_sql_tables.proofs.StepLemmas.{quiet_then}
use Rattle.acct_sql_tables.proofs.RemoveLemmas.{removed_one}
use Rattle.acct_sql.proofs.transactions.remove_row.Goals as goal

pub remove_plan-requires : goal.remove_plan-requires
remove_plan-requires g c = λ clean o. (c.in_ok-remove_columns.ensures.done clean).book

pub returns : goal.returns
returns g c = record {
  quiet = quiet_then g.S.Store _ _ _ c.remove_columns.ensures.quiet c.remove_plan.ensures.quiet;
  done = λ clean.
      let one : HasCleanDisk (state g.S.Store c.remove_columns.new.tx.conn.now) = omega
      (arith, c.remove_plan.ensures.quiet.survives.clean, clean) in
      answered c.remove_plan.result (removed_one c.args.key.now
      (state g.S.Store c.args.tx.now.conn.now) _ (state g.S.Store c.remove_plan.new.tx.conn.now)
      (c.in_ok-remove_columns.ensures.done one)) (c.remove_plan.ensures.done clean);
}
