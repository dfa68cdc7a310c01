-- Plans and prices.
use Rattle.std.specs.Prelude.{ℕ, ◌+◌, ◌-◌, ◌*◌, ◌/◌, ◌≤◌, Bool, ◌&&◌, not, Option, None, Some}
use Rattle.std.specs.Prelude.{List, codes, bytes_eq, if◌then◌else◌, All, Contains}
use Rattle.std.specs.List.{find, filter, list_any}
use Rattle.std.specs.Option.{option_or}
use Rattle.acct_model.specs.declared.plan.Plan.{Plan}
use Rattle.acct_model.specs.declared.plan.Count.{Count}
use Rattle.acct_model.specs.declared.plan.Count.TheVariants.{Both, Input, Output}

-- what is counted of an input and an output: both together, the input, or the output
abbrev pub counted_by : Count → ℕ → ℕ → ℕ
counted_by Both input output = input + output
counted_by Input input output = input
counted_by Output input output = output

-- what a plan counts of an input and an output
abbrev pub counted : Plan → ℕ → ℕ → ℕ
counted plan input output = counted_by plan.count input output

-- how many blocks n octets start
abbrev pub started_blocks : ℕ → ℕ → ℕ
started_blocks block n = (n + (block - 1)) / block

-- the price of n counted octets: the unit for each block that was started
abbrev pub price_of : Plan → ℕ → ℕ
price_of plan n = plan.unit * started_blocks plan.block n

-- k blocks cover n octets, and fewer do not
pub record IsLeastBlocks (block n k : ℕ) : Type 0 where
  pub covers : n ≤ k * block
  pub least : (j : ℕ) → n ≤ j * block → k ≤ j

-- the plan has the class
abbrev pub has_class : List ℕ → Plan → Bool
has_class class plan = bytes_eq class plan.class

-- the class of the plan that prices each class without one
abbrev pub default_class : List ℕ
default_class = codes "default"

-- the plan of a class, else the plan `default`
abbrev pub plan_for : List Plan → List ℕ → Option Plan
plan_for plans class =
    option_or (find (has_class class) plans) (find (has_class default_class) plans)

-- what a plan counts, if there is one, else both together
abbrev pub counted_under : Option Plan → ℕ → ℕ → ℕ
counted_under None input output = input + output
counted_under (Some plan) input output = counted plan input output

-- the class of the plan of a class: that class if a plan has it, else `default`
abbrev pub plan_class : List Plan → List ℕ → List ℕ
plan_class plans class = if list_any (has_class class) plans then class else default_class

-- a class is one of those of added plans; `default` is there from the first
abbrev pub is_added : List Plan → List ℕ → Bool
is_added added class = list_any (has_class class) added && not (bytes_eq class default_class)

-- plans without those that were added
abbrev pub plans_before : List Plan → List Plan → List Plan
plans_before added plans = filter (λ plan. not (is_added added plan.class)) plans

-- each old plan is unchanged among the new ones
abbrev pub Extends : List Plan → List Plan → Type 0
Extends new old = All (λ plan. Contains new plan) old

-- the plans among the new ones whose classes the old ones do not have
abbrev pub plans_added : List Plan → List Plan → List Plan
plans_added old new = filter (λ plan. not (list_any (has_class plan.class) old)) new

-- the price of n octets under a plan, if there is one
abbrev pub price_under : Option Plan → ℕ → ℕ
price_under None n = 0
price_under (Some plan) n = price_of plan n
