use Rattle.std.proofs.Common.{rules, arith, ◌≡◌, ◌<◌, IsTrue, length, get_or, sym, ◌∙◌, ap}
use Rattle.std.proofs.Common.{subst, false, true≢false}
use Rattle.std.specs.Prelude.{All, Contains}
use Rattle.std.proofs.lemmas.List.{take_all}
use Rattle.std.proofs.lemmas.List.Elements.{All-contains}
use Rattle.acct_model.proofs.Lists.{all_more}
use Rattle.acct_model.proofs.plans.Plans.extends.Goals as goal

pub returns-then-not-is_among : goal.returns-then-not-is_among
returns-then-not-is_among c = (
  λ never. absurd (true≢false (sym never)),
  λ all.
      let no : c.is_among.result ≡ false = search rules in
      let olds = c.deref-plan-items.result.now in
      let same : olds ≡ c.args.old.now = c.deref-plan-items.ensures.value ∙ c.old.view_is in
      let news : c.deref.result.now ≡ c.args.self.now = c.deref.ensures.value ∙ c.self.view_is in
      let there : Contains olds c.plan-item.result =
      (c.loop-plan.plan-index, c.loop-plan-test.true, sym c.plan-item.is) in
      let kept = All-contains (Contains c.args.self.now) c.args.old.now c.plan-item.result all
      (subst (λ l. Contains l c.plan-item.result) same there) in
      let yes = c.is_among.ensures.1 (subst (λ l. Contains l c.plan-item.result) (sym news) kept) in
      absurd (true≢false (sym yes ∙ no)),
)

pub loop-plan-preserved : goal.loop-plan-preserved
loop-plan-preserved c =
    let yes : IsTrue c.is_among.result = search rules in
    let olds = c.deref-plan-items.result.now in
    let same : olds ≡ c.args.old.now = c.deref-plan-items.ensures.value ∙ c.old.view_is in
    let news : c.deref.result.now ≡ c.args.self.now = c.deref.ensures.value ∙ c.self.view_is in
    let within : c.loop-plan.plan-index < length c.args.old.now =
    subst (λ l. c.loop-plan.plan-index < length l) same c.loop-plan-test.true in
    all_more (Contains c.args.self.now) c.args.old.now c.loop-plan.plan-index c.plan-item.result
    within
    (subst (λ l. c.plan-item.result ≡ get_or l c.loop-plan.plan-index c.plan-item.result) same
    c.plan-item.is)
    c.loop-plan.invariant
    (subst (λ l. Contains l c.plan-item.result) news (c.is_among.ensures.0 yes))

pub returns : goal.returns
returns c = (
  λ _.
      let olds = c.deref-plan-items.result.now in
      let same : olds ≡ c.args.old.now = c.deref-plan-items.ensures.value ∙ c.old.view_is in
      let whole : length olds ≡ length c.args.old.now = ap length same in
      subst (All (Contains c.args.self.now))
      (take_all c.loop-plan.plan-index c.args.old.now
      (omega (arith, whole, c.loop-plan-test.false)))
      c.loop-plan.invariant,
  λ _. search rules,
)
