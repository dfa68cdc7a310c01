-- What the next start makes of what a crash left of a book.
use Rattle.std.specs.Prelude.{◌≡◌, List}
use Rattle.sqlite.specs.Tree.{Trees}
use Rattle.sqlite.specs.Effect.{Database}
use Rattle.sqlite.specs.State.{State, HasCleanDisk}
use Rattle.acct_model.specs.declared.plan.Plan.{Plan}
use Rattle.acct_sql_tables.specs.Tables.{book_schema, own_number}
use Rattle.acct_sql_tables.specs.Make.{KeepsPlans}
use Rattle.acct_sql_tables.specs.Look.{HasNumberAlone, IsRefusedAs}
use Rattle.acct_sql_tables.specs.Book.{IsOpenBook, LeavesPlans}
use Rattle.acct_sql_tables.specs.declared.sql_book_error.SqlBookError.{SqlBookError}
use Rattle.acct_sql_tables.specs.declared.sql_book_error.SqlBookError.TheVariants.{Unavailable}

-- tables that say that they are a book's of these plans
pub record AreOf (plans : List Plan) (db : Trees) : Type 0 where
  pub number : HasNumberAlone own_number db
  pub kept : KeepsPlans plans db

-- What a book shows are such tables, and so is anything that a crash may leave of it.
pub record IsOf (plans : List Plan) (s : State) : Type 0 where
  pub shows : IsOpenBook s → AreOf plans s.now.trees
  pub leaves : HasCleanDisk s → (db : Trees) → s.may_leave db → AreOf plans db

-- The next start takes what a crash left, or the store or memory fails. A file keeps its schema in
-- a crash: that is the store's, and a premise here.
pub record NextStartTakes (plans : List Plan) (old new : State) : Type 0 where
  -- a book of which a crash leaves only what it shows is such a book, if that are such tables
  pub begun : AreOf plans old.now.trees
      → (HasCleanDisk old → (db : Trees) → old.may_leave db → db ≡ old.now.trees) → IsOf plans old
  -- and each call of the book leaves one
  pub kept : (IsOpenBook new → IsOpenBook old) → LeavesPlans old new → IsOf plans old
      → IsOf plans new
  -- its tables are refused for no other reason
  pub taken : (db : Database) (why : SqlBookError) → db.schema ≡ book_schema → AreOf plans db.trees
      → IsRefusedAs plans db why → why ≡ Unavailable
