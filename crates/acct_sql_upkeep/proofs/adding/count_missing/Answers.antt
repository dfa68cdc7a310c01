use Rattle.std.proofs.Common.{arith, true, false, inl, inr, refl, sym, ◌∙◌, true≢false}
use Rattle.acct_sql_tables.specs.declared.plan_table.PlanTable.TheVariants.{Prices}
use Rattle.acct_sql_tables.specs.inner.Looked.{IsShownIn}
use Rattle.acct_sql_upkeep.proofs.AddLemmas.{shown_more, number_more}
use Rattle.acct_sql_upkeep.proofs.adding.count_missing.Goals as goal

pub loop-plan-preserved-then-is_shown : goal.loop-plan-preserved-then-is_shown
loop-plan-preserved-then-is_shown c =
    let before = c.loop-plan.invariant in
    let here = c.is_shown.ensures.0 c.if-is_shown.true in (
      omega (arith, before.0),
      shown_more c.args.prices.now c.args.plans.now c.loop-plan.plan-index c.plan-item.result
          c.loop-plan-test.true c.plan-item.is before.1 (inl here),
      λ old all.
          let more = number_more c.args.prices.now c.args.plans.now c.loop-plan.plan-index
          c.loop-plan.count c.plan-item.result true c.loop-plan-test.true c.plan-item.is
          (λ yes. here, λ yes. refl) before.2 old all in
          omega (arith, more),
    )

pub loop-plan-preserved : goal.loop-plan-preserved
loop-plan-preserved c =
    let before = c.loop-plan.invariant in
    let gone = λ (yes : IsShownIn Prices c.args.prices.now c.plan-item.result).
    true≢false (sym (c.is_shown.ensures.1 yes) ∙ c.if-is_shown.false) in (
      omega (arith, before.0),
      shown_more c.args.prices.now c.args.plans.now c.loop-plan.plan-index c.plan-item.result
          c.loop-plan-test.true c.plan-item.is before.1 (inr gone),
      λ old all.
          let more = number_more c.args.prices.now c.args.plans.now c.loop-plan.plan-index
          c.loop-plan.count c.plan-item.result false c.loop-plan-test.true c.plan-item.is
          (λ yes. absurd (true≢false (sym yes)), λ yes. absurd (gone yes)) before.2 old all in
          omega (arith, more),
    )
