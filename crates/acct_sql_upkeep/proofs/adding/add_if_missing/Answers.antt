use Rattle.sqlite.specs.Held.{state}
use Rattle.acct_sql_tables.proofs.ReadLemmas.{answered}
use Rattle.acct_sql_tables.proofs.StepLemmas.{quiet_none}
use Rattle.acct_sql_upkeep.proofs.AddLemmas.{plan_there}
use Rattle.acct_sql_upkeep.proofs.adding.add_if_missing.Goals as goal

pub returns-then-is_shown : goal.returns-then-is_shown
returns-then-is_shown g c = record {
  quiet = quiet_none g.S.Store c.args.tx.now.conn;
  done = λ clean d first so_far there t. plan_there d first so_far c.args.plan.now
      (state g.S.Store c.args.tx.now.conn.now)
      (there (c.is_shown.ensures.0 c.if-is_shown.true)) t;
}

pub returns : goal.returns
returns g c = record {
  quiet = c.add_plan.ensures.quiet;
  done = λ clean. answered c.add_plan.result
      (λ last d first so_far there t. last d first so_far t) (c.add_plan.ensures.done clean);
}
