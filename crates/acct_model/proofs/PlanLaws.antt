-- The laws of plans.
use Rattle.std.proofs.Common.{◌≡◌, ◌≢◌, ℕ, suc, ◌≤◌, ◌^◌, ◌⊎◌, inl, inr, true, false, cond, not}
use Rattle.std.proofs.Common.{None, Some, List, [], ◌∷◌, ◌++◌, refl, sym, ◌∙◌, ap, subst, arith}
use Rattle.std.proofs.Common.{true≢false}
use Rattle.std.proofs.lemmas.Bool.Decides.{nat_tests}
use Rattle.std.proofs.lemmas.List.Elements.{All-head, All-tail, Contains-append_left}
use Rattle.std.proofs.lemmas.List.Elements.{Contains-append_right, Contains-append_cases}
use Rattle.std.proofs.lemmas.List.Kept.{AllPairs-cons}
use Rattle.std.specs.Prelude.{bytes_eq, nat_le, Contains}
use Rattle.std.specs.List.{find, list_any, All, AllPairs}
use Rattle.std.specs.Option.{option_or}
use Rattle.acct_model.specs.declared.plan.Plan.{Plan}
use Rattle.acct_model.specs.declared.plans.PlanError.TheVariants.{NoDefault, TwicePlanned, BadBlock}
use Rattle.acct_model.specs.declared.plans.PlanError.TheVariants.{BadUnit}
use Rattle.acct_model.specs.Faults.{first_fault, first_fault_after}
use Rattle.acct_model.specs.Plans.{has_class, default_class}
use Rattle.acct_model.specs.PlanFaults.{is_block, is_unit, plan_fault, default_fault}
use Rattle.acct_model.specs.PlanLaws.{FaultlessPlansKeepBounds, PlanIsOfItsClass}
use Rattle.acct_model.proofs.Faults.{first_none, second_none}
use Rattle.acct_model.proofs.Lists.{here, deeper, nowhere, front_or_behind, none_same, found_same}
use Rattle.acct_model.proofs.Lists.{all_listed, any_listed, listed_any, find-none, find-some}
use Rattle.acct_model.proofs.PlanFaults.{tests, default_there, IsPlan-listed}
use Rattle.acct_model.proofs.Same.{Decides-bytes_eq}

abbrev pub Differ : Plan → Plan → Type 0
Differ one other = one.class ≢ other.class

-- the earlier plans' classes differ from those of these plans
abbrev pub AreApart : List Plan → List Plan → Type 0
AreApart earlier plans =
    (one other : Plan) → Contains earlier one → Contains plans other → Differ one other

apart_from : (earlier : List Plan) (plan : Plan) → plan_fault earlier plan ≡ None → (one : Plan)
    → Contains earlier one → Differ one plan
apart_from earlier plan e one there same =
    let pass = tests (is_block plan.block) (is_unit plan.unit)
    (list_any (has_class plan.class) earlier) e in
    let other : bytes_eq plan.class one.class ≡ false =
    none_same (λ _ x. has_class plan.class x) one earlier pass.2 one there in
    true≢false (sym ((Decides-bytes_eq plan.class one.class).1 (sym same)) ∙ other)

pairs_nil : AllPairs Differ []
pairs_nil i j d below within = absurd (omega arith)

-- plans without a fault after earlier ones have classes of their own
pub apart : (earlier plans : List Plan) → first_fault_after plan_fault earlier plans ≡ None
    → AllPairs Differ plans × AreApart earlier plans
apart earlier [] e = (pairs_nil, λ one other there none. absurd (nowhere other none))
apart earlier (plan ∷ plans) e =
    let own = first_none (plan_fault earlier plan)
    (first_fault_after plan_fault (earlier ++ plan ∷ []) plans) e in
    let rest = apart (earlier ++ plan ∷ []) plans
    (second_none (plan_fault earlier plan)
    (first_fault_after plan_fault (earlier ++ plan ∷ []) plans) e) in
    let next : All (Differ plan) plans =
    all_listed (Differ plan) plans
    (λ other at. rest.1 plan other
    (Contains-append_right earlier (plan ∷ []) plan (here plan [])) at) in (
      AllPairs-cons Differ plan plans next rest.0,
      λ one other there at. elim (front_or_behind plan other plans at) [
        | inl is ↦ subst (λ v. Differ one v) is (apart_from earlier plan own one there)
        | inr later ↦ rest.1 one other (Contains-append_left earlier (plan ∷ []) one there) later
      ],
    )

-- the bounds of each plan
abbrev pub IsBounded : Plan → Type 0
IsBounded plan = (1 ≤ plan.block) × (plan.block ≤ 2 ^ 53)

no_fault : (earlier : List Plan) (plan : Plan) → IsBounded plan → plan.unit ≤ 10 ^ 9
    → ((one : Plan) → Contains earlier one → Differ one plan) → plan_fault earlier plan ≡ None
no_fault earlier plan bounded few apart_of =
    let block : is_block plan.block ≡ true =
    rw (least plan.block bounded.0, most plan.block (2 ^ 53) bounded.1) refl in
    let unit : is_unit plan.unit ≡ true = most plan.unit (10 ^ 9) few in
    let twice : list_any (has_class plan.class) earlier ≡ false = new plan.class earlier apart_of in
    λ i. cond (not (block i)) (Some BadBlock)
    (cond (not (unit i)) (Some BadUnit) (cond (twice i) (Some TwicePlanned) None))
  where
    least : (n : ℕ) → 1 ≤ n → nat_le 1 n ≡ true
    least n h = grind (arith, nat_tests, h)

    most : (n m : ℕ) → n ≤ m → nat_le n m ≡ true
    most n m h = grind (arith, nat_tests, h)

    new : (class : List ℕ) (xs : List Plan) → ((one : Plan) → Contains xs one → one.class ≢ class)
        → list_any (has_class class) xs ≡ false
    new class xs differ =
        elim (list_any (has_class class) xs) as (λ b. list_any (has_class class) xs ≡ b
        → b ≡ false) [
          | true ↦ λ e. let found = found_same (has_class class) xs e in
              absurd (differ found.0 found.1
              (sym ((Decides-bytes_eq class found.0.class).0 found.2)))
          | false ↦ λ e. refl
        ] refl

apart_tail : (plan : Plan) (plans : List Plan) → AllPairs Differ (plan ∷ plans)
    → AllPairs Differ plans
apart_tail plan plans pairs i j d below within =
    pairs (suc i) (suc j) d (omega (arith, below)) (omega (arith, within))

apart_head : (plan : Plan) (plans : List Plan) → AllPairs Differ (plan ∷ plans) → (other : Plan)
    → Contains plans other → Differ plan other
apart_head plan plans pairs other (k, within, is) =
    subst (λ v. Differ plan v) is (pairs 0 (suc k) other (omega arith) (omega (arith, within)))

none_first : (earlier plans : List Plan) → All IsBounded plans
    → All (λ plan. plan.unit ≤ 10 ^ 9) plans → AllPairs Differ plans → AreApart earlier plans
    → first_fault_after plan_fault earlier plans ≡ None
none_first earlier [] bounded few pairs others = refl
none_first earlier (plan ∷ plans) bounded few pairs others =
    let own = no_fault earlier plan (All-head IsBounded plan plans bounded)
    (All-head (λ plan. plan.unit ≤ 10 ^ 9) plan plans few)
    (λ one there. others one plan there (here plan plans)) in
    let rest = none_first (earlier ++ plan ∷ []) plans (All-tail IsBounded plan plans bounded)
    (All-tail (λ plan. plan.unit ≤ 10 ^ 9) plan plans few) (apart_tail plan plans pairs)
    (λ one other there at. elim (Contains-append_cases earlier (plan ∷ []) one there) [
      | inl earlier_one ↦ others one other earlier_one (deeper plan other plans at)
      | inr only ↦ elim (front_or_behind plan one [] only) [
        | inl is ↦ subst (λ v. Differ v other) is (apart_head plan plans pairs other at)
        | inr none ↦ absurd (nowhere one none)
      ]
    ]) in
    ap (λ o. option_or o (first_fault_after plan_fault (earlier ++ plan ∷ []) plans)) own ∙ rest

pub plans_keep_bounds : FaultlessPlansKeepBounds
plans_keep_bounds plans = (
  λ e.
      let one = first_none (first_fault plan_fault plans) (default_fault plans) e in
      let two = second_none (first_fault plan_fault plans) (default_fault plans) e in
      let found = found_same (has_class default_class) plans (default_there plans two) in
      record {
        blocks = all_listed IsBounded plans
            (λ plan there. let is =
            IsPlan-listed plans plan e there in (omega (arith, is.block), is.most));
        units = all_listed (λ plan. plan.unit ≤ 10 ^ 9) plans
            (λ plan there. (IsPlan-listed plans plan e there).unit);
        classes = (apart [] plans one).0;
        default = any_listed (λ plan. plan.class ≡ default_class) plans found.0 found.1
            (sym ((Decides-bytes_eq default_class found.0.class).0 found.2));
      },
  λ h.
      let one = none_first [] plans h.blocks h.units h.classes
      (λ a b none at. absurd (nowhere a none)) in
      let found = listed_any (λ plan. plan.class ≡ default_class) plans h.default in
      ap (λ o. option_or o (default_fault plans)) one ∙ there plans found.0 found.1 found.2,
)
  where
    there : (xs : List Plan) (x : Plan) → Contains xs x → x.class ≡ default_class
        → default_fault xs ≡ None
    there xs x at is =
        elim (list_any (has_class default_class) xs) as (λ b. list_any (has_class default_class) xs
        ≡ b → cond b None (Some NoDefault) ≡ None) [
          | true ↦ λ e. refl
          | false ↦ λ e. absurd
              (true≢false (sym ((Decides-bytes_eq default_class x.class).1 (sym is))
              ∙ none_same (λ _ y. has_class default_class y) x xs e x at))
        ] refl

pub plan_of_class : PlanIsOfItsClass
plan_of_class plans class plan is =
    elim (find (has_class class) plans) as (λ o. find (has_class class) plans ≡ o
    → option_or o (find (has_class default_class) plans) ≡ Some plan
    → Contains plans plan
    × ((plan.class ≡ class)
    ⊎ ((plan.class ≡ default_class) × All (λ other. other.class ≢ class) plans))) [
      | None ↦ λ e h.
          let found = find-some (has_class default_class) plans plan h in
          let none = find-none (has_class class) plans e in (
            found.0,
            inr (
              sym ((Decides-bytes_eq default_class plan.class).0 found.1),
              all_listed (λ other. other.class ≢ class) plans (λ other at same.
                  true≢false (sym ((Decides-bytes_eq class other.class).1 (sym same))
                  ∙ none_same (λ _ y. has_class class y) other plans none other at)),
            ),
          )
      | Some x ↦ λ e h.
          let same : x ≡ plan = cc in
          let found = find-some (has_class class) plans plan (e ∙ ap Some same) in
          (found.0, inl (sym ((Decides-bytes_eq class plan.class).0 found.1)))
    ] refl is
