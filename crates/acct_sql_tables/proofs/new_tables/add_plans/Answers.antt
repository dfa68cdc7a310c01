use Rattle.std.proofs.Common.{arith, ◌≡◌, ◌+◌, ◌++◌, [], ◌∷◌, take, subst, ap, sym, ◌∙◌}
use Rattle.std.proofs.lemmas.List.{take_all, take_more}
use Rattle.sqlite.specs.State.{HasCleanDisk}
use Rattle.sqlite.specs.Held.{state}
use Rattle.acct_sql_tables.specs.inner.NewBook.{HasPlans, HasPlansOver}
use Rattle.acct_sql_tables.proofs.StepLemmas.{quiet_then}
use Rattle.acct_sql_tables.proofs.new_tables.add_plans.Goals as goal

pub loop-plan-preserved : goal.loop-plan-preserved
loop-plan-preserved g c =
    let before = c.loop-plan.invariant in
    let more : take (c.loop-plan.plan-index + 1) c.args.plans.now
    ≡ take c.loop-plan.plan-index c.args.plans.now ++ c.plan-item.result ∷ [] =
    take_more c.args.plans.now c.loop-plan.plan-index c.plan-item.result c.loop-plan-test.true
    ∙ ap (λ plan. take c.loop-plan.plan-index c.args.plans.now ++ plan ∷ [])
    (sym c.plan-item.is) in
    record {
      quiet = quiet_then g.S.Store _ _ _ before.quiet c.add_plan.ensures.quiet;
      done = λ clean d start.
          let early : HasCleanDisk (state g.S.Store c.loop-plan.tx.conn.now) = omega
          (arith, c.add_plan.ensures.quiet.survives.clean, clean) in
          let was = before.done early d start in record {
            first = was.first;
            fresh = was.fresh;
            so_far = subst (λ plans. HasPlansOver d was.first plans
                (state g.S.Store c.add_plan.new.tx.conn.now)) (sym more)
                (c.in_ok-add_plan.ensures.done clean d was.first
                (take c.loop-plan.plan-index c.args.plans.now) was.so_far);
          };
    }

pub returns : goal.returns
returns g c =
    let before = c.loop-plan.invariant in
    record {
      quiet = before.quiet;
      done = λ clean d start. subst (λ plans. HasPlans d plans
          (state g.S.Store c.loop-plan.tx.conn.now))
          (take_all c.loop-plan.plan-index c.args.plans.now (omega (arith, c.loop-plan-test.false)))
          (before.done clean d start);
    }
