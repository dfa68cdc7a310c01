-- What the session of a row costs.
use Rattle.std.specs.Prelude.{ℕ, List, Option, Some, None}
use Rattle.acct_model.specs.declared.plan.Plan.{Plan}
use Rattle.acct_model.specs.Plans.{plan_for, default_class, counted_under, price_under}
use Rattle.acct_book.specs.Row.{RowFacts}

-- the class of a session's plan
abbrev pub class_of_plan : Option Plan → List ℕ
class_of_plan None = default_class
class_of_plan (Some plan) = plan.class

-- the plan of a row: the one in force that has the class that the row keeps
abbrev pub plan_of_row : List Plan → RowFacts → Option Plan
plan_of_row plans row = plan_for plans row.plan

-- the price of what the plan counts of a row's octets
abbrev pub charge_by : Option Plan → RowFacts → ℕ
charge_by plan row = price_under plan (counted_under plan row.input row.output)

-- the price of a row's octets, by its plan
abbrev pub charge_of_row : List Plan → RowFacts → ℕ
charge_of_row plans row = charge_by (plan_of_row plans row) row
