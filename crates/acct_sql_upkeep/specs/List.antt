-- Why the plans of a database are not listed.
use Rattle.std.specs.Prelude.{◌≡◌, ◌≢◌, ℤ}
use Rattle.sqlite.specs.Effect.{Database}
use Rattle.acct_sql_tables.specs.declared.sql_book_error.SqlBookError.{SqlBookError}
use Rattle.acct_sql_tables.specs.declared.sql_book_error.SqlBookError.TheVariants.{NotABook}
use Rattle.acct_sql_tables.specs.declared.sql_book_error.SqlBookError.TheVariants.{PlansDiffer}
use Rattle.acct_sql_tables.specs.declared.sql_book_error.SqlBookError.TheVariants.{WrongSchema}
use Rattle.acct_sql_tables.specs.declared.sql_book_error.SqlBookError.TheVariants.{Unavailable}
use Rattle.acct_sql_tables.specs.Tables.{book_schema, own_number}
use Rattle.acct_sql_tables.specs.Make.{HasNumber}
use Rattle.acct_sql_tables.specs.Look.{HasNumberAlone}

-- A database is no book whose plans could be listed: it has no schema number, or it has another. Or
-- it has the tables of a book, and the rows of its plans are not those of a site. Of other tables
-- than a book's it says no more than that the number is not 3.
abbrev pub IsUnlistedAs : Database → SqlBookError → Type 0
IsUnlistedAs db NotABook = db.schema ≡ book_schema → (n : ℤ) → ¬ (HasNumber n db.trees)
IsUnlistedAs db (WrongSchema n) = (n ≢ own_number)
    × (db.schema ≡ book_schema → HasNumberAlone n db.trees)
IsUnlistedAs db PlansDiffer = db.schema ≡ book_schema
IsUnlistedAs db Unavailable = Unit {0}
