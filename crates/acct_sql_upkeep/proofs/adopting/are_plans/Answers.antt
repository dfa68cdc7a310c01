use Rattle.std.proofs.Common.{rules, arith, ◌≡◌, IsTrue, subst, sym, ◌∙◌}
use Rattle.std.proofs.Common.{false, true≢false}
use Rattle.std.specs.List.{AllByRecursion}
use Rattle.std.proofs.lemmas.List.{take_all}
use Rattle.sqlite_rules.proofs.ListLemmas.{all_has, all_more, has_at}
use Rattle.acct_sql_tables.specs.inner.Looked.{IsPlanIn}
use Rattle.acct_sql_upkeep.proofs.adopting.are_plans.Goals as goal

pub returns-then-not-is_plan : goal.returns-then-not-is_plan
returns-then-not-is_plan c = (
  λ never. absurd (true≢false (sym never)),
  λ all.
      let no : c.is_plan.result ≡ false = search rules in
      let there = has_at c.args.rows.now c.loop-row.row-index c.row-item.result
      c.loop-row-test.true c.row-item.is in
      let yes = c.is_plan.ensures.1 (all_has
      (IsPlanIn c.args.table c.args.plans.now) c.args.rows.now
      c.row-item.result all there) in
      absurd (true≢false (sym yes ∙ no)),
)

pub loop-row-preserved : goal.loop-row-preserved
loop-row-preserved c =
    let yes : IsTrue c.is_plan.result = search rules in
    all_more (IsPlanIn c.args.table c.args.plans.now) c.args.rows.now c.loop-row.row-index
    c.row-item.result c.loop-row-test.true c.row-item.is c.loop-row.invariant
    (c.is_plan.ensures.0 yes)

pub returns : goal.returns
returns c = (
  λ _. subst (AllByRecursion (IsPlanIn c.args.table c.args.plans.now))
      (take_all c.loop-row.row-index c.args.rows.now (omega (arith, c.loop-row-test.false)))
      c.loop-row.invariant,
  λ _. search rules,
)
