-- Plans that price alike.
use Rattle.std.proofs.Common.{◌≡◌, ℕ, true, List, refl, sym, ◌∙◌, ap, Some, None}
use Rattle.std.specs.List.{find}
use Rattle.std.specs.Option.{option_or}
use Rattle.acct_model.specs.declared.plan.Plan.{Plan}
use Rattle.acct_model.specs.Plans.{has_class, default_class, plan_for}
use Rattle.acct_model.proofs.Lists.{find-some}
use Rattle.acct_model.proofs.Same.{Decides-bytes_eq}
use Rattle.acct_model.proofs.SamePlans.{SamePlans}
use Rattle.acct_service.specs.Life.{PriceAlike}

-- the plan `default` has no other class
not_default : (plans : List Plan) (class : List ℕ) (plan : Plan)
    → find (has_class default_class) plans ≡ Some plan → has_class class plan ≡ true
    → class ≡ default_class
not_default plans class plan found has =
    (Decides-bytes_eq class plan.class).0 has
    ∙ sym ((Decides-bytes_eq default_class plan.class).0
    (find-some (has_class default_class) plans plan found).1)

-- if a class has a plan in one list, it has one in the other
none_alike : (these those : List Plan) (class : List ℕ) (plan : Plan)
    → find (has_class class) these ≡ None → find (has_class class) those ≡ Some plan
    → plan_for these class ≡ plan_for those class → ⊥
none_alike these those class plan none some alike =
    let same : find (has_class default_class) these ≡ Some plan =
    ap (λ o. option_or o (find (has_class default_class) these)) (sym none) ∙ alike
    ∙ ap (λ o. option_or o (find (has_class default_class) those)) some in
    let is = not_default these class plan same
    (find-some (has_class class) those plan some).1 in
    let there : find (has_class class) these ≡ Some plan =
    ap (λ c. find (has_class c) these) is ∙ same in
    absurd (cc (none, there))

-- what prices each class alike has one plan for each class
pub same_plans : (these those : List Plan) → PriceAlike these those → SamePlans these those
same_plans these those alike class =
    elim (find (has_class class) these) as (λ one. find (has_class class) these ≡ one
    → one ≡ find (has_class class) those) [
      | None ↦ λ none. elim (find (has_class class) those) as (λ other.
          find (has_class class) those ≡ other → None ≡ other) [
            | None ↦ λ also. refl
            | Some plan ↦ λ some.
                absurd (none_alike these those class plan none some (alike class))
          ] refl
      | Some plan ↦ λ some. elim (find (has_class class) those) as (λ other.
          find (has_class class) those ≡ other → Some plan ≡ other) [
            | None ↦ λ none.
                absurd (none_alike those these class plan none some (sym (alike class)))
            | Some other ↦ λ also.
                ap (λ o. option_or o (find (has_class default_class) these)) (sym some)
                ∙ alike class
                ∙ ap (λ o. option_or o (find (has_class default_class) those)) also
          ] refl
    ] refl
