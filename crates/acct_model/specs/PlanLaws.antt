-- Laws of plans and prices, in the subject's own words. Functions of the module `laws` have them as
-- their contracts.
use Rattle.std.specs.Prelude.{◌≡◌, ◌≢◌, ℕ, ◌<◌, ◌≤◌, ◌^◌, ◌↔◌, ◌⊎◌, IsSome, None, Some, List}
use Rattle.std.specs.Prelude.{Contains, All}
use Rattle.std.specs.List.{AllPairs, Any}
use Rattle.acct_model.specs.declared.plan.Plan.{Plan}
use Rattle.acct_model.specs.Plans.{started_blocks, IsLeastBlocks, default_class, plan_for}
use Rattle.acct_model.specs.PlanFaults.{plans_fault}

-- the blocks that n octets start cover them, and fewer do not
abbrev pub StartedBlocksAreLeast : Type 0
StartedBlocksAreLeast =
    (block n : ℕ) → 0 < block → IsLeastBlocks block n (started_blocks block n)

-- Each block is 1 to 2^53 and each unit at most 10^9, no two plans have one class, and one has the
-- class `default`.
pub record AreFaultless (plans : List Plan) : Type 0 where
  pub blocks : All (λ plan. (1 ≤ plan.block) × (plan.block ≤ 2 ^ 53)) plans
  pub units : All (λ plan. plan.unit ≤ 10 ^ 9) plans
  pub classes : AllPairs (λ one other. one.class ≢ other.class) plans
  pub default : Any (λ plan. plan.class ≡ default_class) plans

-- plans have no fault exactly if they keep these bounds
abbrev pub FaultlessPlansKeepBounds : Type 0
FaultlessPlansKeepBounds = (plans : List Plan) → (plans_fault plans ≡ None) ↔ AreFaultless plans

-- among plans without a fault each class has one
abbrev pub EachClassIsPlanned : Type 0
EachClassIsPlanned =
    (plans : List Plan) (class : List ℕ) → plans_fault plans ≡ None → IsSome (plan_for plans class)

-- the plan of a class is one of the plans and has the class, or none has it and it is `default`
abbrev pub PlanIsOfItsClass : Type 0
PlanIsOfItsClass = (plans : List Plan) (class : List ℕ) (plan : Plan)
    → plan_for plans class ≡ Some plan
    → Contains plans plan
    × ((plan.class ≡ class)
    ⊎ ((plan.class ≡ default_class) × All (λ other. other.class ≢ class) plans))
