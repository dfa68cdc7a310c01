use Rattle.std.proofs.Common.{arith, subst, List}
use Rattle.sqlite.specs.Effect.{Database}
use Rattle.sqlite.specs.State.{HasCleanDisk}
use Rattle.sqlite.specs.Held.{state}
use Rattle.acct_model.specs.declared.plan.Plan.{Plan}
use Rattle.acct_sql_tables.specs.declared.sql_book_error.SqlBookError.{SqlBookError}
use Rattle.acct_sql_tables.specs.declared.sql_book_error.SqlBookError.TheVariants.{NotABook}
use Rattle.acct_sql_tables.specs.declared.sql_book_error.SqlBookError.TheVariants.{PlansDiffer}
use Rattle.acct_sql_tables.specs.declared.sql_book_error.SqlBookError.TheVariants.{WrongSchema}
use Rattle.acct_sql_tables.specs.declared.sql_book_error.SqlBookError.TheVariants.{Unavailable}
use Rattle.acct_sql_tables.specs.Look.{IsRefusedAs}
use Rattle.acct_sql_upkeep.specs.List.{IsUnlistedAs}
use Rattle.acct_sql_upkeep.proofs.listing.kept_plans.Goals as goal

-- what is no book of some plans has none to be listed
unlisted : (plans : List Plan) (db : Database) (e : SqlBookError) → IsRefusedAs plans db e
    → IsUnlistedAs db e
unlisted plans db NotABook it = it
unlisted plans db (WrongSchema n) it = it
unlisted plans db PlansDiffer it = it.0
unlisted plans db Unavailable it = tt

pub returns-in-Err-clause-refused : goal.returns-in-Err-clause-refused
returns-in-Err-clause-refused g c clean =
    let there : HasCleanDisk (state g.S.Store c.shown_plans.new.conn) = omega
    (arith, c.examine_book.ensures.rows.looks.survives.clean, clean) in
    let looks = c.in_ok-plans.ensures.looks in
    let same = looks.looks.same there (looks.stays_open there) in
    subst (λ (db : Database). IsUnlistedAs db c.in-Err.error) same
    (unlisted c.list.result.now (state g.S.Store c.shown_plans.new.conn).now c.in-Err.error
    (c.in-Err.ensures.refused clean))
