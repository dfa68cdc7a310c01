use Rattle.std.proofs.Common.{rules, arith, ◌≡◌, ◌+◌, ◌++◌, [], ◌∷◌, take, subst, ap, sym, ◌∙◌}
use Rattle.std.proofs.lemmas.List.{take_all, take_more, append_assoc, append-nil}
use Rattle.sqlite.specs.State.{HasCleanDisk}
use Rattle.sqlite.specs.Held.{state}
use Rattle.sqlite_rules.proofs.ListLemmas.{has_left, has_at}
use Rattle.acct_sql_tables.specs.inner.NewBook.{HasPlansOver}
use Rattle.acct_sql_tables.proofs.StepLemmas.{quiet_then, quiet_none}
use Rattle.acct_sql_upkeep.proofs.adding.add_missing.Goals as goal

pub loop-plan-init : goal.loop-plan-init
loop-plan-init g c = record {
  quiet = quiet_none g.S.Store c.args.tx.now.conn;
  done = λ clean d first kept those t. subst (λ plans. HasPlansOver d first plans
      (state g.S.Store c.args.tx.now.conn.now)) (sym (append-nil kept)) t;
}

pub loop-plan-preserved : goal.loop-plan-preserved
loop-plan-preserved g c =
    let before = c.loop-plan.invariant in
    let at = c.loop-plan.plan-index in
    let plan = c.plan-item.result in
    let more : take (at + 1) c.args.plans.now ≡ take at c.args.plans.now ++ plan ∷ [] =
    take_more c.args.plans.now at plan c.loop-plan-test.true
    ∙ ap (λ plan. take at c.args.plans.now ++ plan ∷ []) (sym c.plan-item.is) in
    let there = has_at c.args.plans.now at plan c.loop-plan-test.true c.plan-item.is in
    record {
      quiet = quiet_then g.S.Store _ _ _ before.quiet c.add_if_missing.ensures.quiet;
      done = λ clean d first kept those t.
          let early : HasCleanDisk (state g.S.Store c.loop-plan.tx.conn.now) = omega
          (arith, c.add_if_missing.ensures.quiet.survives.clean, clean) in
          let front = take at c.args.plans.now in
          subst (λ plans. HasPlansOver d first plans
          (state g.S.Store c.add_if_missing.new.tx.conn.now))
          (append_assoc kept front (plan ∷ []) ∙ ap (λ l. kept ++ l) (sym more))
          (c.in_ok-add_if_missing.ensures.done clean d first (kept ++ front)
          (λ shown. has_left kept front plan ((those plan).1 (there, shown)))
          (before.done early d first kept those t));
    }

pub returns-in_err-add_if_missing : goal.returns-in_err-add_if_missing
returns-in_err-add_if_missing g c = record {
  quiet = quiet_then g.S.Store _ _ _ c.loop-plan.invariant.quiet c.add_if_missing.ensures.quiet;
  done = λ clean. search rules;
}

pub returns : goal.returns
returns g c =
    let before = c.loop-plan.invariant in
    record {
      quiet = before.quiet;
      done = λ clean d first kept those t. subst (λ plans. HasPlansOver d first (kept ++ plans)
          (state g.S.Store c.loop-plan.tx.conn.now))
          (take_all c.loop-plan.plan-index c.args.plans.now (omega (arith, c.loop-plan-test.false)))
          (before.done clean d first kept those t);
    }
