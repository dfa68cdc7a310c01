use Rattle.std.proofs.Common.{rules, arith, ◌≢◌, refl, subst, sym, ◌∙◌, true≢false}
use Rattle.std.specs.Prelude.{All, Contains}
use Rattle.std.proofs.lemmas.List.{take_all}
use Rattle.std.proofs.lemmas.List.Elements.{All-contains}
use Rattle.acct_model.proofs.Lists.{all_more}
use Rattle.acct_model.proofs.plan.Plan.is_among.Goals as goal

pub returns-then-is_same : goal.returns-then-is_same
returns-then-is_same c = (
  λ _. subst (Contains c.args.plans.now) (c.is_same.ensures.0 c.if-is_same.true)
      (c.loop-other.other-index, c.loop-other-test.true, sym c.other-item.is),
  λ _. search rules,
)

pub loop-other-preserved : goal.loop-other-preserved
loop-other-preserved c =
    all_more (λ other. other ≢ c.args.self.now) c.args.plans.now c.loop-other.other-index
    c.other-item.result c.loop-other-test.true c.other-item.is c.loop-other.invariant
    (λ same. true≢false (sym (c.is_same.ensures.1 same) ∙ c.if-is_same.false))

pub returns : goal.returns
returns c = (
  λ never. absurd (true≢false (sym never)),
  λ there.
      let none = subst (All (λ other. other ≢ c.args.self.now))
      (take_all c.loop-other.other-index c.args.plans.now (omega (arith, c.loop-other-test.false)))
      c.loop-other.invariant in
      absurd (All-contains (λ other. other ≢ c.args.self.now) c.args.plans.now c.args.self.now none
      there refl),
)
