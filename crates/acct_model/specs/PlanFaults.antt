-- What is wrong with plans.
use Rattle.std.specs.Prelude.{◌≡◌, ℕ, Bool, Option, None, Some, List, nat_le, not, ◌&&◌}
use Rattle.std.specs.Prelude.{if◌then◌else◌, ◌^◌}
use Rattle.std.specs.List.{list_any}
use Rattle.std.specs.Option.{option_or}
use Rattle.acct_model.specs.declared.plan.Plan.{Plan}
use Rattle.acct_model.specs.declared.plans.PlanError.{PlanError}
use Rattle.acct_model.specs.declared.plans.PlanError.TheVariants.{NoDefault, TwicePlanned, BadBlock}
use Rattle.acct_model.specs.declared.plans.PlanError.TheVariants.{BadUnit}
use Rattle.acct_model.specs.Faults.{first_fault}
use Rattle.acct_model.specs.Plans.{has_class, default_class}

-- a block is 1 to 2^53 octets
abbrev pub is_block : ℕ → Bool
is_block block = nat_le 1 block && nat_le block (2 ^ 53)

-- a unit is 0 to 10^9
abbrev pub is_unit : ℕ → Bool
is_unit unit = nat_le unit (10 ^ 9)

-- what is wrong with a plan that follows earlier ones
abbrev pub plan_fault : List Plan → Plan → Option PlanError
plan_fault earlier plan =
    if not (is_block plan.block) then Some BadBlock
    else if not (is_unit plan.unit) then Some BadUnit
    else if list_any (has_class plan.class) earlier then Some TwicePlanned
    else None

-- what is wrong with plans of which none is `default`
abbrev pub default_fault : List Plan → Option PlanError
default_fault plans = if list_any (has_class default_class) plans then None else Some NoDefault

-- the first fault of a list of plans: each in its turn, and at last that `default` has none
abbrev pub plans_fault : List Plan → Option PlanError
plans_fault plans = option_or (first_fault plan_fault plans) (default_fault plans)

-- what the plans of a list keep, of which none need be `default` yet
pub record ArePlansSoFar (plans : List Plan) : Type 0 where
  pub faultless : first_fault plan_fault plans ≡ None

-- what the plans of a site keep
pub record ArePlans (plans : List Plan) : Type 0 where
  pub faultless : plans_fault plans ≡ None
