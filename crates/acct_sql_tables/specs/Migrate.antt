-- What becomes of a book of schema number 1 or 2 that is made one of today's.
use Rattle.std.specs.Prelude.{◌≡◌, ◌≢◌, ◌⊎◌, ℕ, ℤ, pos, List, [], ◌∷◌, Some, None}
use Rattle.std.specs.Prelude.{option_map, if◌then◌else◌}
use Rattle.sqlite.specs.Tree.{Trees}
use Rattle.sqlite.specs.Effect.{Database}
use Rattle.sqlite.specs.Schema.{Schema}
use Rattle.sqlite_rules.specs.Lists.{Has}
use Rattle.acct_model.specs.declared.plan.Plan.{Plan}
use Rattle.acct_model.specs.declared.plan.Count.TheVariants.{Both}
use Rattle.acct_model.specs.Plans.{plan_for}
use Rattle.acct_model.specs.History.{Accepted, PlansAdded, History, topup_of, balance_of, is_known}
use Rattle.acct_model.specs.History.{AreInRange}
use Rattle.acct_book.specs.declared.key.Key.{Key}
use Rattle.acct_book.specs.Row.{RowFacts}
use Rattle.acct_book.specs.Rows.{row_of}
use Rattle.acct_book.specs.Charge.{class_of_plan}
use Rattle.acct_book.specs.Content.{Content}
use Rattle.acct_sql_tables.specs.declared.sql_book_error.SqlBookError.{SqlBookError}
use Rattle.acct_sql_tables.specs.declared.sql_book_error.SqlBookError.TheVariants.{NotABook}
use Rattle.acct_sql_tables.specs.declared.sql_book_error.SqlBookError.TheVariants.{PlansDiffer}
use Rattle.acct_sql_tables.specs.declared.sql_book_error.SqlBookError.TheVariants.{WrongSchema}
use Rattle.acct_sql_tables.specs.declared.sql_book_error.SqlBookError.TheVariants.{Unavailable}
use Rattle.acct_sql_tables.specs.declared.older_schema.OlderSchema.{OlderSchema}
use Rattle.acct_sql_tables.specs.declared.older_schema.OlderSchema.TheVariants.{First, Second}
use Rattle.acct_sql_tables.specs.Tables.{first_schema, second_schema, own_number}
use Rattle.acct_sql_tables.specs.Content.{content_in_tables, content_without_plans, without_plan}
use Rattle.acct_sql_tables.specs.Make.{HasNumber, KeepsPlans, KeepsPrices}
use Rattle.acct_sql_tables.specs.Look.{HasNumberAlone}

-- the schema number of older books, and their tables
abbrev pub number_of : OlderSchema → ℤ
number_of First = pos 1
number_of Second = pos 2

abbrev pub schema_of : OlderSchema → Schema
schema_of First = first_schema
schema_of Second = second_schema

-- the session by its class if a plan has it, else by `default`
abbrev pub with_own_plan : List Plan → RowFacts → RowFacts
with_own_plan plans row = record row { plan = class_of_plan (plan_for plans row.class) }

-- what the older tables hold, and each session the plan of its class, in a book of these plans
abbrev pub migrated : List Plan → Trees → Content
migrated plans db = record {
  rows = λ key. option_map (with_own_plan plans) ((content_without_plans db).rows key);
  balances = (content_without_plans db).balances;
  topups = (content_without_plans db).topups;
  plans = Some (plan_for plans);
}

-- the tables of a book of these plans that was made of older tables
pub record IsMigrated (plans : List Plan) (old new : Trees) : Type 0 where
  pub content : content_in_tables new ≡ migrated plans old
  pub number : HasNumberAlone own_number new
  pub plans_kept : KeepsPlans plans new

-- The oldest tables keep these plans. They say no more of a plan than its price: under schema
-- number 1 each plan counts both directions.
pub record KeepsFirstPlans (plans : List Plan) (db : Trees) : Type 0 where
  pub prices : KeepsPrices plans db
  pub both : (plan : Plan) → Has plans plan → plan.count ≡ Both

-- older tables keep these plans
abbrev pub KeepsOlderPlans : OlderSchema → List Plan → Trees → Type 0
KeepsOlderPlans First plans db = KeepsFirstPlans plans db
KeepsOlderPlans Second plans db = KeepsPlans plans db

-- it is a book of an older schema number and of these plans
pub record IsOlder (older : OlderSchema) (plans : List Plan) (db : Database) : Type 0 where
  pub schema : db.schema ≡ schema_of older
  pub number : HasNumberAlone (number_of older) db.trees
  pub plans_kept : KeepsOlderPlans older plans db.trees

-- the schema number of the other older tables
abbrev pub other_number : OlderSchema → ℤ
other_number First = number_of Second
other_number Second = number_of First

-- Why a database is no older book of these plans. It has no schema number, or that of the other
-- older tables; it has another; or it keeps other plans. Of other tables than an older book's it
-- says no more than that the number is neither 1 nor 2.
abbrev pub IsNotMigratedAs : List Plan → Database → SqlBookError → Type 0
IsNotMigratedAs plans db NotABook = (older : OlderSchema) → db.schema ≡ schema_of older
    → ((n : ℤ) → ¬ (HasNumber n db.trees)) ⊎ HasNumberAlone (other_number older) db.trees
IsNotMigratedAs plans db (WrongSchema n) = ((older : OlderSchema) → n ≢ number_of older)
    × ((older : OlderSchema) → db.schema ≡ schema_of older → HasNumberAlone n db.trees)
IsNotMigratedAs plans db PlansDiffer = (older : OlderSchema) × (db.schema ≡ schema_of older)
    × HasNumberAlone (number_of older) db.trees × ¬ (KeepsOlderPlans older plans db.trees)
IsNotMigratedAs plans db Unavailable = Unit {0}

-- ---- the history of an older book

-- no plan was added in it, as none could be
abbrev pub AddsNoPlans : History → Type 0
AddsNoPlans [] = Unit {0}
AddsNoPlans (Accepted next ∷ older) = AddsNoPlans older
AddsNoPlans (PlansAdded added ∷ older) = ⊥

-- The content of an older book, which has no plans of its sessions, stands for a history as any
-- content does, except for those plans.
pub record StoodFor (plans : List Plan) (content : Content) (history : History) : Type 0 where
  pub no_additions : AddsNoPlans history
  pub rows : (key : Key) → content.rows key ≡ option_map without_plan (row_of plans history key)
  pub balances : (account : List ℕ) → content.balances account
      ≡ (if is_known history account then Some (balance_of plans history account) else None)
  pub topups : (number : List ℕ) → content.topups number ≡ topup_of history number
  pub in_range : AreInRange plans history
