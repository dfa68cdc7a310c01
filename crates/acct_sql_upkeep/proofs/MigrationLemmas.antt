-- Why a database is no older book.
use Rattle.std.proofs.Common.{◌≢◌, List}
use Rattle.sqlite.specs.Effect.{Database}
use Rattle.acct_model.specs.declared.plan.Plan.{Plan}
use Rattle.acct_sql_tables.specs.declared.sql_book_error.SqlBookError.{SqlBookError}
use Rattle.acct_sql_tables.specs.declared.sql_book_error.SqlBookError.TheVariants.{NotABook}
use Rattle.acct_sql_tables.specs.declared.sql_book_error.SqlBookError.TheVariants.{PlansDiffer}
use Rattle.acct_sql_tables.specs.declared.sql_book_error.SqlBookError.TheVariants.{WrongSchema}
use Rattle.acct_sql_tables.specs.declared.sql_book_error.SqlBookError.TheVariants.{Unavailable}
use Rattle.acct_sql_tables.specs.declared.older_schema.OlderSchema.{OlderSchema}
use Rattle.acct_sql_tables.specs.Migrate.{schema_of, IsNotMigratedAs}
use Rattle.acct_sql_tables.specs.inner.Migrating.{IsNoOlderFault}

-- what tables are refused for that are those of no older book
pub unfit_refused : (plans : List Plan) (db : Database) (e : SqlBookError)
    → ((older : OlderSchema) → db.schema ≢ schema_of older) → IsNoOlderFault e
    → IsNotMigratedAs plans db e
unfit_refused plans db NotABook other it = λ older has. absurd (other older has)
unfit_refused plans db (WrongSchema n) other it = (it, λ older has. absurd (other older has))
unfit_refused plans db PlansDiffer other never = absurd never
unfit_refused plans db Unavailable other it = tt
