use Rattle.std.proofs.Common.{rules, arith, subst, sym, ◌∙◌, true≢false}
use Rattle.std.specs.List.{AllByRecursion}
use Rattle.std.proofs.lemmas.List.{take_all}
use Rattle.sqlite_rules.proofs.ListLemmas.{all_has, all_more, has_at}
use Rattle.acct_sql_tables.specs.inner.Looked.{Says}
use Rattle.acct_sql_upkeep.proofs.adopting.is_shown.Goals as goal

pub returns-then-says : goal.returns-then-says
returns-then-says c = (
  λ _. (
    c.row-item.result,
    has_at c.args.rows.now c.loop-row.row-index
        c.row-item.result c.loop-row-test.true c.row-item.is,
    c.says.ensures.0 c.if-says.true,
  ),
  λ _. search rules,
)

pub loop-row-preserved : goal.loop-row-preserved
loop-row-preserved c = all_more (λ row. ¬ (Says c.args.table c.args.plan.now row)) c.args.rows.now
    c.loop-row.row-index c.row-item.result c.loop-row-test.true c.row-item.is
    c.loop-row.invariant
    (λ shows. true≢false (sym (c.says.ensures.1 shows) ∙ c.if-says.false))

pub returns : goal.returns
returns c = (
  λ never. absurd (true≢false (sym never)),
  λ found.
      let none = subst (AllByRecursion (λ row. ¬ (Says c.args.table c.args.plan.now row)))
      (take_all c.loop-row.row-index c.args.rows.now (omega (arith, c.loop-row-test.false)))
      c.loop-row.invariant in
      absurd (all_has (λ row. ¬ (Says c.args.table c.args.plan.now row)) c.args.rows.now found.0
      none
      found.1 found.2),
)
