-- The plans and the schema number, and the tables of a new book.
use Rattle.std.specs.Prelude.{◌≡◌, ℕ, ℤ, pos, List, [], codes}
use Rattle.sqlite.specs.declared.types.Value.TheVariants.{Int, Text, Blob}
use Rattle.sqlite.specs.Order.{Row, column}
use Rattle.sqlite.specs.Tree.{Trees}
use Rattle.sqlite_rules.specs.Lists.{Has}
use Rattle.acct_model.specs.declared.plan.Plan.{Plan}
use Rattle.acct_model.specs.declared.plan.Count.{Count}
use Rattle.acct_model.specs.declared.plan.Count.TheVariants.{Both, Input, Output}
use Rattle.acct_book.specs.Content.{empty_keeping}
use Rattle.acct_sql_tables.specs.Tables.{meta, price_plan, plan_count, session_plan, own_number}
use Rattle.acct_sql_tables.specs.Content.{content_in_tables}

-- the row says this plan: class, block, unit
pub record IsPlanRow (plan : Plan) (row : Row) : Type 0 where
  pub class : column row 1 ≡ Blob plan.class
  pub block : column row 2 ≡ Int (pos plan.block)
  pub unit : column row 3 ≡ Int (pos plan.unit)

-- the number by which a row says what a plan counts
abbrev pub mode_of : Count → ℕ
mode_of Both = 0
mode_of Input = 1
mode_of Output = 2

-- the row says what this plan counts: class, mode
pub record IsCountRow (plan : Plan) (row : Row) : Type 0 where
  pub class : column row 1 ≡ Blob plan.class
  pub mode : column row 2 ≡ Int (pos (mode_of plan.count))

-- the table `price_plan` has a row for each of these plans, and no other row
pub record KeepsPrices (plans : List Plan) (db : Trees) : Type 0 where
  pub each : (plan : Plan) → Has plans plan
      → (row : Row) × Has (db price_plan.tree) row × IsPlanRow plan row
  pub only : (row : Row) → Has (db price_plan.tree) row
      → (plan : Plan) × Has plans plan × IsPlanRow plan row

-- and so has the table `plan_count`
pub record KeepsCounts (plans : List Plan) (db : Trees) : Type 0 where
  pub each : (plan : Plan) → Has plans plan
      → (row : Row) × Has (db plan_count.tree) row × IsCountRow plan row
  pub only : (row : Row) → Has (db plan_count.tree) row
      → (plan : Plan) × Has plans plan × IsCountRow plan row

-- the book's two tables of plans have these
pub record KeepsPlans (plans : List Plan) (db : Trees) : Type 0 where
  pub prices : KeepsPrices plans db
  pub counts : KeepsCounts plans db

-- the table `meta` has a row `schema` with this number
abbrev pub HasNumber : ℤ → Trees → Type 0
HasNumber n db = (row : Row) × Has (db meta.tree) row
    × (column row 1 ≡ Text (codes "schema")) × (column row 2 ≡ Int n)

-- the table `meta` has a row `schema` with this number, and no other row
pub record KeepsNumber (n : ℤ) (db : Trees) : Type 0 where
  pub has : HasNumber n db
  pub only : (row : Row) → Has (db meta.tree) row → (column row 1 ≡ Text (codes "schema"))
      × (column row 2 ≡ Int n)

-- the tables of an empty book that was made with these plans
pub record IsNew (plans : List Plan) (db : Trees) : Type 0 where
  pub content : content_in_tables db ≡ empty_keeping plans
  pub number : KeepsNumber own_number db
  pub plans_kept : KeepsPlans plans db
  pub session_plans : db session_plan.tree ≡ []
