use Rattle.std.proofs.Common.{arith}
use Rattle.sqlite.specs.State.{HasCleanDisk}
use Rattle.sqlite.specs.Held.{state}
use Rattle.acct_sql_tables.proofs.ReadLemmas.{answered}
use Rattle.acct_sql_tables.proofs.StepLemmas.{quiet_then}
use Rattle.acct_sql_tables.proofs.MadeLemmas.{made_with_plan}
use Rattle.acct_sql.proofs.KeptPlanLemmas.{made_with_kept}
use Rattle.acct_sql.proofs.transactions.set_row.Goals as goal

pub set_plan-requires-clause-book : goal.set_plan-requires-clause-book
set_plan-requires-clause-book g c = λ clean o. (c.in_ok-set_columns.ensures.done clean).book

pub set_plan-requires-clause-inside : goal.set_plan-requires-clause-inside
set_plan-requires-clause-inside g c = λ clean o.
    (c.in_ok-set_columns.ensures.done clean).shows.mode

pub returns-then-is_planned : goal.returns-then-is_planned
returns-then-is_planned g c = record {
  quiet = c.set_columns.ensures.quiet;
  done = λ clean.
      let early : HasCleanDisk (state g.S.Store c.args.tx.now.conn.now) = omega
      (arith, c.set_columns.ensures.quiet.survives.clean, clean) in
      let first = c.in_ok-set_columns.ensures.done clean in
      made_with_kept c.args.row.now (state g.S.Store c.args.tx.now.conn.now) _ first
      (c.requires.planned c.if-is_planned.true early first.shows.was_open);
}

pub returns : goal.returns
returns g c = record {
  quiet = quiet_then g.S.Store _ _ _ c.set_columns.ensures.quiet c.set_plan.ensures.quiet;
  done = λ clean.
      let one : HasCleanDisk (state g.S.Store c.set_columns.new.tx.conn.now) = omega
      (arith, c.set_plan.ensures.quiet.survives.clean, clean) in
      answered c.set_plan.result (made_with_plan c.args.row.now
      (state g.S.Store c.args.tx.now.conn.now) _ (state g.S.Store c.set_plan.new.tx.conn.now)
      (c.in_ok-set_columns.ensures.done one)) (c.set_plan.ensures.done clean);
}
