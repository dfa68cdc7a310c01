use Rattle.std.proofs.Common.{arith, ◌++◌, ◌∷◌, []}
use Rattle.sqlite.specs.State.{HasCleanDisk}
use Rattle.sqlite.specs.Held.{state}
use Rattle.acct_sql_tables.proofs.ReadLemmas.{answered}
use Rattle.acct_sql_tables.proofs.StepLemmas.{quiet_then}
use Rattle.acct_sql_tables.proofs.new_tables.add_plan.Goals as goal

pub returns : goal.returns
returns g c = record {
  quiet = quiet_then g.S.Store _ _ _ c.add_price.ensures.quiet c.add_count.ensures.quiet;
  done = λ clean.
      let one : HasCleanDisk (state g.S.Store c.add_price.new.tx.conn.now) = omega
      (arith, c.add_count.ensures.quiet.survives.clean, clean) in
      answered c.add_count.result (λ last d first plans t. last d first
      (plans ++ c.args.plan.now ∷ []) plans
      (c.in_ok-add_price.ensures.done one d first plans plans t)) (c.add_count.ensures.done clean);
}
