use Rattle.std.proofs.Common.{rules, arith, ◌≡◌, ◌↔◌, IsTrue, subst, sym, ◌∙◌}
use Rattle.std.proofs.Common.{false, true≢false}
use Rattle.std.specs.List.{AllByRecursion}
use Rattle.std.proofs.lemmas.List.{take_all}
use Rattle.sqlite_rules.proofs.ListLemmas.{all_has, all_more, has_at}
use Rattle.acct_model.specs.declared.plan.Plan.{Plan}
use Rattle.acct_sql_tables.specs.declared.plan_table.PlanTable.TheVariants.{Prices, Counts}
use Rattle.acct_sql_tables.specs.inner.Looked.{IsShownIn}
use Rattle.acct_sql_upkeep.proofs.adding.are_in_both.Goals as goal

pub returns-then-not-is_in_both : goal.returns-then-not-is_in_both
returns-then-not-is_in_both c = (
  λ never. absurd (true≢false (sym never)),
  λ all.
      let no : c.is_in_both.result ≡ false = search rules in
      let there = has_at c.args.plans.now c.loop-plan.plan-index c.plan-item.result
      c.loop-plan-test.true c.plan-item.is in
      let yes = c.is_in_both.ensures.1 (all_has (λ (plan : Plan). IsShownIn Prices
      c.args.prices.now plan ↔ IsShownIn Counts c.args.counts.now plan) c.args.plans.now
      c.plan-item.result all there) in
      absurd (true≢false (sym yes ∙ no)),
)

pub loop-plan-preserved : goal.loop-plan-preserved
loop-plan-preserved c =
    let yes : IsTrue c.is_in_both.result = search rules in
    all_more (λ (plan : Plan). IsShownIn Prices c.args.prices.now plan
    ↔ IsShownIn Counts c.args.counts.now plan) c.args.plans.now c.loop-plan.plan-index
    c.plan-item.result c.loop-plan-test.true c.plan-item.is c.loop-plan.invariant
    (c.is_in_both.ensures.0 yes)

pub returns : goal.returns
returns c = (
  λ _. subst (AllByRecursion (λ (plan : Plan). IsShownIn Prices c.args.prices.now plan
      ↔ IsShownIn Counts c.args.counts.now plan))
      (take_all c.loop-plan.plan-index c.args.plans.now (omega (arith, c.loop-plan-test.false)))
      c.loop-plan.invariant,
  λ _. search rules,
)
