use Rattle.std.proofs.Common.{rules, arith, subst, sym, ◌∙◌, true≢false}
use Rattle.std.specs.List.{AllByRecursion}
use Rattle.std.proofs.lemmas.List.{take_all}
use Rattle.sqlite_rules.proofs.ListLemmas.{all_has, all_more, has_at}
use Rattle.acct_sql_tables.specs.inner.Looked.{Says}
use Rattle.acct_sql_upkeep.proofs.adopting.is_plan.Goals as goal

pub returns-then-says : goal.returns-then-says
returns-then-says c = (
  λ _. (
    c.plan-item.result,
    has_at c.args.plans.now c.loop-plan.plan-index
        c.plan-item.result c.loop-plan-test.true c.plan-item.is,
    c.says.ensures.0 c.if-says.true,
  ),
  λ _. search rules,
)

pub loop-plan-preserved : goal.loop-plan-preserved
loop-plan-preserved c = all_more (λ plan. ¬
    (Says c.args.table plan c.args.row.now)) c.args.plans.now
    c.loop-plan.plan-index c.plan-item.result c.loop-plan-test.true c.plan-item.is
    c.loop-plan.invariant
    (λ shows. true≢false (sym (c.says.ensures.1 shows) ∙ c.if-says.false))

pub returns : goal.returns
returns c = (
  λ never. absurd (true≢false (sym never)),
  λ found.
      let none = subst (AllByRecursion (λ plan. ¬ (Says c.args.table plan c.args.row.now)))
      (take_all c.loop-plan.plan-index c.args.plans.now (omega (arith, c.loop-plan-test.false)))
      c.loop-plan.invariant in
      absurd (all_has (λ plan. ¬ (Says c.args.table plan c.args.row.now)) c.args.plans.now found.0
      none
      found.1 found.2),
)
