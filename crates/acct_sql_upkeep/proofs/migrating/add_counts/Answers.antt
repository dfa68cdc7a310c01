use Rattle.std.proofs.Common.{arith, ◌≡◌, ◌+◌, ◌++◌, [], ◌∷◌, take, None, subst, ap, sym, ◌∙◌}
use Rattle.std.proofs.lemmas.List.{take_all, take_more}
use Rattle.sqlite.specs.State.{HasCleanDisk}
use Rattle.sqlite.specs.Held.{state}
use Rattle.acct_sql_tables.specs.inner.Migrating.{HasWritten}
use Rattle.acct_sql_tables.proofs.StepLemmas.{quiet_then}
use Rattle.acct_sql_upkeep.proofs.migrating.add_counts.Goals as goal

pub loop-plan-preserved : goal.loop-plan-preserved
loop-plan-preserved g c =
    let before = c.loop-plan.invariant in
    let more : take (c.loop-plan.plan-index + 1) c.args.plans.now
    ≡ take c.loop-plan.plan-index c.args.plans.now ++ c.plan-item.result ∷ [] =
    take_more c.args.plans.now c.loop-plan.plan-index c.plan-item.result c.loop-plan-test.true
    ∙ ap (λ plan. take c.loop-plan.plan-index c.args.plans.now ++ plan ∷ [])
    (sym c.plan-item.is) in
    record {
      quiet = quiet_then g.S.Store _ _ _ before.quiet c.keep_count.ensures.quiet;
      done = λ clean all w.
          let early : HasCleanDisk (state g.S.Store c.loop-plan.tx.conn.now) = omega
          (arith, c.keep_count.ensures.quiet.survives.clean, clean) in
          subst (λ plans. HasWritten all plans None
          (state g.S.Store c.keep_count.new.tx.conn.now)) (sym more)
          (c.in_ok-keep_count.ensures.done clean all
          (take c.loop-plan.plan-index c.args.plans.now) (before.done early all w));
    }

pub returns : goal.returns
returns g c =
    let before = c.loop-plan.invariant in
    record {
      quiet = before.quiet;
      done = λ clean all w. subst (λ plans. HasWritten all plans None
          (state g.S.Store c.loop-plan.tx.conn.now))
          (take_all c.loop-plan.plan-index c.args.plans.now (omega (arith, c.loop-plan-test.false)))
          (before.done clean all w);
    }
