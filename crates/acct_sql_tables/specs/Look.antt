-- Queries of a database that may be a book.
use Rattle.std.specs.Prelude.{◌≡◌, ◌≢◌, ℤ, false, List, IsTrue}
use Rattle.sqlite.specs.Tree.{Trees}
use Rattle.sqlite.specs.Effect.{Database}
use Rattle.sqlite.specs.State.{State, HasCleanDisk, Survives}
use Rattle.acct_model.specs.declared.plan.Plan.{Plan}
use Rattle.acct_sql_tables.specs.declared.sql_book_error.SqlBookError.{SqlBookError}
use Rattle.acct_sql_tables.specs.declared.sql_book_error.SqlBookError.TheVariants.{NotABook}
use Rattle.acct_sql_tables.specs.declared.sql_book_error.SqlBookError.TheVariants.{PlansDiffer}
use Rattle.acct_sql_tables.specs.declared.sql_book_error.SqlBookError.TheVariants.{WrongSchema}
use Rattle.acct_sql_tables.specs.declared.sql_book_error.SqlBookError.TheVariants.{Unavailable}
use Rattle.acct_sql_tables.specs.Tables.{book_schema, own_number}
use Rattle.acct_sql_tables.specs.Make.{HasNumber, KeepsPlans}

-- outside a transaction, with all that it holds committed if it was not shut
pub record IsIdle (s : State) : Type 0 where
  pub autocommit : s.in_transaction ≡ false
  pub settled : HasCleanDisk s → IsTrue s.is_open → s.now ≡ s.committed

-- a call changed nothing
pub record LooksAtTables (old new : State) : Type 0 where
  pub idle : IsIdle new
  pub was_open : HasCleanDisk new → IsTrue new.is_open → IsTrue old.is_open
  pub same : HasCleanDisk new → IsTrue new.is_open → new.now ≡ old.now
  pub survives : Survives old new (λ _. ⊥)

-- the table `meta` has only this schema number
pub record HasNumberAlone (n : ℤ) (db : Trees) : Type 0 where
  pub has : HasNumber n db
  pub alone : (m : ℤ) → HasNumber m db → m ≡ n

-- why a database is not the book of these plans: it has no schema number, it has another, or it
-- keeps other plans. Of other tables than a book's it says no more than that the number is not 3.
abbrev pub IsRefusedAs : List Plan → Database → SqlBookError → Type 0
IsRefusedAs plans db NotABook = db.schema ≡ book_schema → (n : ℤ) → ¬ (HasNumber n db.trees)
IsRefusedAs plans db (WrongSchema n) = (n ≢ own_number)
    × (db.schema ≡ book_schema → HasNumberAlone n db.trees)
IsRefusedAs plans db PlansDiffer = (db.schema ≡ book_schema) × HasNumberAlone own_number db.trees
    × ¬ (KeepsPlans plans db.trees)
IsRefusedAs plans db Unavailable = Unit {0}
