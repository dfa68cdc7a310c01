-- What becomes of a book when plans are added to it.
use Rattle.std.specs.Prelude.{◌≡◌, ◌≢◌, ℤ, List}
use Rattle.sqlite.specs.Tree.{Trees}
use Rattle.sqlite.specs.Effect.{Database}
use Rattle.acct_model.specs.declared.plan.Plan.{Plan}
use Rattle.acct_model.specs.Plans.{Extends}
use Rattle.acct_book.specs.Content.{keeping}
use Rattle.acct_sql_tables.specs.declared.sql_book_error.SqlBookError.{SqlBookError}
use Rattle.acct_sql_tables.specs.declared.sql_book_error.SqlBookError.TheVariants.{NotABook}
use Rattle.acct_sql_tables.specs.declared.sql_book_error.SqlBookError.TheVariants.{PlansDiffer}
use Rattle.acct_sql_tables.specs.declared.sql_book_error.SqlBookError.TheVariants.{WrongSchema}
use Rattle.acct_sql_tables.specs.declared.sql_book_error.SqlBookError.TheVariants.{Unavailable}
use Rattle.acct_sql_tables.specs.Tables.{book_schema, own_number}
use Rattle.acct_sql_tables.specs.Content.{content_in_tables}
use Rattle.acct_sql_tables.specs.Make.{HasNumber, KeepsPlans}
use Rattle.acct_sql_tables.specs.Look.{HasNumberAlone}

-- the tables keep some plans, each of which is unchanged among these
pub record AreExtended (plans : List Plan) (db : Trees) : Type 0 where
  pub old : List Plan
  pub kept : KeepsPlans old db
  pub extended : Extends plans old

-- the tables of a book of these plans, which contains what it contained before, but for its list of
-- plans
pub record HasAdded (plans : List Plan) (old new : Trees) : Type 0 where
  pub content : content_in_tables new ≡ keeping plans (content_in_tables old)
  pub number : HasNumberAlone own_number new
  pub plans_kept : KeepsPlans plans new

-- why these plans are not added: the database has no schema number, it has another, or it keeps a
-- plan that is not one of these. Of other tables than a book's it says no more than that the number
-- is not 3.
abbrev pub IsNotAddedAs : List Plan → Database → SqlBookError → Type 0
IsNotAddedAs plans db NotABook = db.schema ≡ book_schema → (n : ℤ) → ¬ (HasNumber n db.trees)
IsNotAddedAs plans db (WrongSchema n) = (n ≢ own_number)
    × (db.schema ≡ book_schema → HasNumberAlone n db.trees)
IsNotAddedAs plans db PlansDiffer = (db.schema ≡ book_schema) × HasNumberAlone own_number db.trees
    × ¬ (AreExtended plans db.trees)
IsNotAddedAs plans db Unavailable = Unit {0}
