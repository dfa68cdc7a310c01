-- What the faults of a list of plans say.
use Rattle.std.proofs.Common.{◌≡◌, ℕ, ◌<◌, ◌≤◌, ◌^◌, Bool, true, false, cond, not, ◌&&◌}
use Rattle.std.proofs.Common.{Option, None, Some, List, [], refl, sym, ◌∙◌, arith}
use Rattle.std.proofs.lemmas.Bool.{true≢false}
use Rattle.std.proofs.lemmas.Bool.Decides.{nat_tests}
use Rattle.std.specs.List.{find, list_any}
use Rattle.std.specs.Option.{option_or}
use Rattle.std.specs.Prelude.{nat_le, Contains, IsSome}
use Rattle.acct_model.specs.declared.plan.Plan.{Plan}
use Rattle.acct_model.specs.declared.plans.PlanError.TheVariants.{NoDefault, TwicePlanned, BadBlock}
use Rattle.acct_model.specs.declared.plans.PlanError.TheVariants.{BadUnit}
use Rattle.acct_model.specs.Faults.{first_fault}
use Rattle.acct_model.specs.Plans.{has_class, default_class, plan_for}
use Rattle.acct_model.specs.PlanFaults.{is_block, is_unit, plan_fault, default_fault, plans_fault}
use Rattle.acct_model.proofs.Faults.{first_none, second_none, passed}
use Rattle.acct_model.proofs.Lists.{find-none, find-some}

pub default_there : (plans : List Plan) → default_fault plans ≡ None
    → list_any (has_class default_class) plans ≡ true
default_there plans e =
    elim (list_any (has_class default_class) plans) as (λ b. cond b None (Some NoDefault) ≡ None
    → b ≡ true) [
      | true ↦ λ h. refl
      | false ↦ λ h. cc
    ] e

-- plans without a fault have the plan `default`
pub default_found : (plans : List Plan) → plans_fault plans ≡ None
    → find (has_class default_class) plans ≡ None → ⊥
default_found plans faultless none =
    let there = default_there plans
    (second_none (first_fault plan_fault plans) (default_fault plans) faultless) in
    true≢false (sym there ∙ find-none (has_class default_class) plans none)

-- what a plan without a fault keeps
pub record IsPlan (plan : Plan) : Type 0 where
  pub block : 0 < plan.block
  pub most : plan.block ≤ 2 ^ 53
  pub unit : plan.unit ≤ 10 ^ 9

pub tests : (block unit twice : Bool)
    → cond (not block) (Some BadBlock)
    (cond (not unit) (Some BadUnit) (cond twice (Some TwicePlanned) None)) ≡ None
    → (block ≡ true) × (unit ≡ true) × (twice ≡ false)
tests true true true e = cc
tests true true false e = (refl, refl, refl)
tests true false twice e = cc
tests false unit twice e = cc

both : (p q : Bool) → (p && q) ≡ true → (p ≡ true) × (q ≡ true)
both true q e = (refl, e)
both false q e = absurd (true≢false (sym e))

is_plan : (earlier : List Plan) (plan : Plan) → plan_fault earlier plan ≡ None → IsPlan plan
is_plan earlier plan e =
    let pass = tests (is_block plan.block) (is_unit plan.unit)
    (list_any (has_class plan.class) earlier) e in
    let block = both (nat_le 1 plan.block) (nat_le plan.block (2 ^ 53)) pass.0 in
    record {
      block = grind (arith, nat_tests, block.0);
      most = grind (arith, nat_tests, block.1);
      unit = grind (arith, nat_tests, pass.1);
    }

-- each plan of a site is one
pub IsPlan-listed : (plans : List Plan) (plan : Plan) → plans_fault plans ≡ None
    → Contains plans plan → IsPlan plan
IsPlan-listed plans plan faultless there =
    let pass = passed plan_fault [] plans
    (first_none (first_fault plan_fault plans) (default_fault plans) faultless) plan there in
    is_plan pass.0 plan pass.1

pub IsPlan-found : (p : Plan → Bool) (plans : List Plan) (found : Plan) → plans_fault plans ≡ None
    → find p plans ≡ Some found → IsPlan found
IsPlan-found p plans found faultless e =
    IsPlan-listed plans found faultless (find-some p plans found e).0

second : (a b : Option Plan) → (b ≡ None → ⊥) → IsSome (option_or a b)
second (Some x) b some = refl
second None (Some y) some = refl
second None None some = absurd (some refl)

-- plans without a fault have a plan for each class
pub each_planned : (plans : List Plan) (class : List ℕ) → plans_fault plans ≡ None
    → IsSome (plan_for plans class)
each_planned plans class faultless =
    second (find (has_class class) plans) (find (has_class default_class) plans)
    (default_found plans faultless)
