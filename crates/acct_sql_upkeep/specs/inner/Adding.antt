-- The adding of plans to a book, in a transaction over what was committed before.
use Rattle.std.specs.Prelude.{◌≡◌, ◌↔◌, ℕ, List, length, IsTrue}
use Rattle.std.specs.List.{AllByRecursion, list_any}
use Rattle.sqlite.specs.Order.{Row}
use Rattle.sqlite.specs.Tree.{Trees}
use Rattle.sqlite.specs.State.{State}
use Rattle.sqlite_rules.specs.Lists.{Has}
use Rattle.acct_model.specs.declared.plan.Plan.{Plan}
use Rattle.acct_model.specs.Plans.{Extends, has_class, plans_added}
use Rattle.acct_sql_tables.specs.Tables.{price_plan, plan_count}
use Rattle.acct_sql_tables.specs.declared.plan_table.PlanTable.TheVariants.{Prices, Counts}
use Rattle.acct_sql_tables.specs.Make.{IsPlanRow, IsCountRow, KeepsPlans}
use Rattle.acct_sql_upkeep.specs.Add.{AreExtended, HasAdded}
use Rattle.acct_sql_tables.specs.inner.Inside.{IsBookOf}
use Rattle.acct_sql_tables.specs.inner.Looked.{IsShownIn, IsPlanIn}

-- a row of the tables has the price of this plan, or what it counts
abbrev pub IsPriced : Plan → Trees → Type 0
IsPriced plan db = (row : Row) × Has (db price_plan.tree) row × IsPlanRow plan row

abbrev pub IsCounted : Plan → Trees → Type 0
IsCounted plan db = (row : Row) × Has (db plan_count.tree) row × IsCountRow plan row

-- an answer shows the prices of the tables
abbrev pub ShowsPrices : Trees → List Row → Type 0
ShowsPrices db rows = (plan : Plan) → IsShownIn Prices rows plan ↔ IsPriced plan db

-- each kept plan is one of these, with what it counts
pub record AreAmong (plans : List Plan) (db : Trees) : Type 0 where
  pub prices : (row : Row) → Has (db price_plan.tree) row
      → (plan : Plan) × Has plans plan × IsPlanRow plan row
  pub counts : (row : Row) → Has (db plan_count.tree) row
      → (plan : Plan) × Has plans plan × IsCountRow plan row
  pub both : (plan : Plan) → Has plans plan → IsPriced plan db ↔ IsCounted plan db

-- the answers for both tables say so
pub record AnswersFit (plans : List Plan) (prices counts : List Row) : Type 0 where
  pub of_prices : AllByRecursion (IsPlanIn Prices plans) prices
  pub of_counts : AllByRecursion (IsPlanIn Counts plans) counts
  pub both : AllByRecursion (λ plan. IsShownIn Prices prices plan ↔ IsShownIn Counts counts plan)
      plans

-- those of the plans that an answer shows
abbrev pub AreShownOf : List Plan → List Row → List Plan → Type 0
AreShownOf plans prices shown =
    (plan : Plan) → Has shown plan ↔ (Has plans plan × IsShownIn Prices prices plan)

-- an answer shows exactly those of the plans whose classes older ones have
abbrev pub ShowsClassesOf : List Plan → List Row → List Plan → Type 0
ShowsClassesOf old prices plans = AllByRecursion
    (λ plan. IsShownIn Prices prices plan ↔ IsTrue (list_any (has_class plan.class) old)) plans

-- plans were added to a book, so many, and committed
pub record IsBookAddedTo (plans : List Plan) (old : Trees) (n : ℕ) (s : State) : Type 0 where
  pub is : IsBookOf (HasAdded plans) old s
  pub extended : AreExtended plans old
  pub counted : (kept : List Plan) → KeepsPlans kept old
      → Extends plans kept × (n ≡ length (plans_added kept plans))
