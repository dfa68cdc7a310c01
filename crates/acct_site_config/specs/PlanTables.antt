-- The tables of plans.
use Rattle.std.specs.Prelude.{◌≡◌, ℕ, ℤ, pos, Bool, true, false, ◌&&◌, nat_le, List, [], ◌∷◌}
use Rattle.std.specs.Prelude.{length, Option, option_and_then, codes}
use Rattle.std.specs.List.{list_any}
use Rattle.toml.specs.Data.{Data, Members}
use Rattle.acct_model.specs.declared.plan.Plan.{Plan}
use Rattle.acct_model.specs.declared.plan.Count.{Count}
use Rattle.acct_model.specs.declared.plan.Count.TheVariants.{Both, Input, Output}
use Rattle.acct_model.specs.declared.plans.PlanError.{PlanError}
use Rattle.acct_model.specs.declared.plans.PlanError.TheVariants.{BadBlock, BadUnit}
use Rattle.acct_model.specs.declared.plans.PlanError.TheVariants as fault
use Rattle.acct_model.specs.Plans.{has_class, default_class}
use Rattle.acct_model.specs.PlanFaults.{plan_fault}
use Rattle.acct_site_config.specs.declared.config_error.ConfigKind.{ConfigKind}
use Rattle.acct_site_config.specs.declared.config_error.ConfigKind.TheVariants.{BadPlan}
use Rattle.acct_site_config.specs.declared.config_error.ConfigKind.TheVariants.{TwicePlanned}
use Rattle.acct_site_config.specs.declared.config_error.ConfigKind.TheVariants.{NoDefault}
use Rattle.acct_site_config.specs.declared.config_error.ConfigKind.TheVariants.{Memory}
use Rattle.acct_site_config.specs.declared.config_error.ConfigTable.TheVariants as place
use Rattle.acct_site_config.specs.declared.config_error.ConfigError.{ConfigError}
use Rattle.acct_site_config.specs.Tables.{table_shown, text_at, integer_at, text_or, four}
use Rattle.acct_site_config.specs.Tables.{top_error}
use Rattle.acct_site_config.specs.Entries as entries

-- the names of a plan's table
abbrev pub plan_names : List (List ℕ)
plan_names = codes "class" ∷ codes "block" ∷ codes "unit" ∷ codes "count" ∷ []

-- the names of what a plan counts
abbrev pub count_name : Count → List ℕ
count_name Both = codes "both"
count_name Input = codes "in"
count_name Output = codes "out"

-- the class, the block, the unit and the count of a plan's table
abbrev pub PlanValues : Type 0
PlanValues = List ℕ × ℤ × ℤ × List ℕ

-- a plan's values in its table; without a count they count both together
abbrev pub plan_values_in : Members → Option PlanValues
plan_values_in members =
    four (text_at (codes "class") members) (integer_at (codes "block") members)
    (integer_at (codes "unit") members) (text_or (count_name Both) (codes "count") members)

abbrev pub plan_values : Data → Option PlanValues
plan_values value = option_and_then plan_values_in (table_shown plan_names value)

-- 1 to 253 octets
abbrev pub is_class : List ℕ → Bool
is_class class = nat_le 1 (length class) && nat_le (length class) 253

-- the values are those of this plan, with a class within its rule
pub record SaysPlan (values : PlanValues) (plan : Plan) : Type 0 where
  pub class_is : values.0 ≡ plan.class
  pub block_is : values.1 ≡ pos plan.block
  pub unit_is : values.2 ≡ pos plan.unit
  pub count_is : values.3 ≡ count_name plan.count
  pub class_fits : is_class plan.class ≡ true

-- the tables spell these plans, each within its bounds, of which no two share a class
abbrev pub ArePlanTables : List Data → List Plan → Type 0
ArePlanTables = entries.AreEntries plan_values SaysPlan plan_fault

-- a plan prices the classes without a plan of their own
abbrev pub has_default : List Plan → Bool
has_default plans = list_any (has_class default_class) plans

-- the kind of a plan's fault
abbrev pub plan_kind : PlanError → ConfigKind
plan_kind BadBlock = BadPlan
plan_kind BadUnit = BadPlan
plan_kind fault.TwicePlanned = TwicePlanned
plan_kind fault.NoDefault = NoDefault
plan_kind fault.Memory = Memory

-- why a table after these plans is refused
abbrev pub IsPlanRefused : List Plan → Data → ConfigKind → Type 0
IsPlanRefused = entries.IsFirstRefused plan_values SaysPlan plan_fault BadPlan plan_kind

-- the error is that of the first plan's table that is refused
abbrev pub FirstPlanRefused : List Data → ConfigError → Type 0
FirstPlanRefused = entries.FirstRefused ArePlanTables IsPlanRefused place.Plan

-- the error is that no plan is `default`
pub record LacksDefault (tables : List Data) (error : ConfigError) : Type 0 where
  pub told : error ≡ top_error NoDefault
  pub plans : List Plan
  pub spelled : ArePlanTables tables plans
  pub lacks : has_default plans ≡ false
