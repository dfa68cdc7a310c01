-- What queries show of a database that may be a book.
use Rattle.std.specs.Prelude.{◌≡◌, ◌≢◌, ◌⊎◌, ℤ, pos, Bool, true, false, List, [], ◌∷◌, Result}
use Rattle.std.specs.Prelude.{IsTrue, OnOk}
use Rattle.std.specs.List.{AllByRecursion}
use Rattle.sqlite.specs.declared.types.Value.TheVariants.{Int, Blob}
use Rattle.sqlite.specs.declared.error.Error.{Error}
use Rattle.sqlite.specs.declared.error.Error.TheVariants.{SqliteFailure}
use Rattle.sqlite.specs.declared.error.ErrorCode.TheVariants as code
use Rattle.sqlite.specs.Order.{Row, column}
use Rattle.sqlite.specs.Tree.{Trees}
use Rattle.sqlite.specs.Effect.{Database}
use Rattle.sqlite.specs.Schema.{Schema}
use Rattle.sqlite.specs.Store.{Ghosts}
use Rattle.sqlite.specs.Held.{Held, state}
use Rattle.sqlite.specs.State.{State, HasCleanDisk}
use Rattle.acct_model.specs.declared.plan.Plan.{Plan}
use Rattle.sqlite_rules.specs.Lists.{Has}
use Rattle.acct_sql_tables.specs.declared.sql_book_error.SqlBookError.{SqlBookError}
use Rattle.acct_sql_tables.specs.declared.sql_book_error.SqlBookError.TheVariants.{NotABook}
use Rattle.acct_sql_tables.specs.declared.sql_book_error.SqlBookError.TheVariants.{PlansDiffer}
use Rattle.acct_sql_tables.specs.declared.sql_book_error.SqlBookError.TheVariants.{WrongSchema}
use Rattle.acct_sql_tables.specs.declared.sql_book_error.SqlBookError.TheVariants.{Unavailable}
use Rattle.acct_sql_tables.specs.declared.older_schema.OlderSchema.{OlderSchema}
use Rattle.acct_sql_tables.specs.Tables.{book_schema, second_schema, account, voucher, session}
use Rattle.acct_sql_tables.specs.Tables.{session_plan, own_number}
use Rattle.acct_sql_tables.specs.Tidy.{IsTidy}
use Rattle.acct_sql_tables.specs.Book.{IsBook}
use Rattle.acct_sql_tables.specs.declared.plan_table.PlanTable.{PlanTable}
use Rattle.acct_sql_tables.specs.declared.plan_table.PlanTable.TheVariants.{Prices, Counts}
use Rattle.acct_sql_tables.specs.Make.{HasNumber, KeepsPlans, mode_of}
use Rattle.acct_sql_tables.specs.Look.{IsIdle, LooksAtTables, HasNumberAlone}
use Rattle.acct_sql_tables.specs.Migrate.{schema_of}

-- it has the tables of a book
abbrev pub HasSchema : State → Type 0
HasSchema s = HasCleanDisk s → s.now.schema ≡ book_schema

-- the tables are those of a book, or of an older one
abbrev pub IsKnown : Schema → Type 0
IsKnown schema = (schema ≡ book_schema) ⊎ ((older : OlderSchema) × (schema ≡ schema_of older))

-- the tables have what each plan counts
abbrev pub HasCounts : Schema → Type 0
HasCounts schema = (schema ≡ book_schema) ⊎ (schema ≡ second_schema)

-- the rowids of its accounts, vouchers, sessions and their plans distinguish their rows
pub record AreTidy (db : Trees) : Type 0 where
  pub accounts : IsTidy (db account.tree)
  pub vouchers : IsTidy (db voucher.tree)
  pub sessions : IsTidy (db session.tree)
  pub plans : IsTidy (db session_plan.tree)

-- its rows are those of a book of these plans
pub record HasRowsOf (plans : List Plan) (db : Trees) : Type 0 where
  pub number : HasNumberAlone own_number db
  pub plans_kept : KeepsPlans plans db
  pub tidy : AreTidy db

-- it is the book of these plans
pub record IsBookWith (plans : List Plan) (db : Database) : Type 0 where
  pub book : IsBook db
  pub number : HasNumberAlone own_number db.trees
  pub plans_kept : KeepsPlans plans db.trees

-- ---- the calls

module _ {S : Type 0} (g : Ghosts S) where
  -- the database that a connection shows
  abbrev pub tables_at : Held S → Database
  tables_at conn = (state g conn).now

  -- outside a transaction, over a database that has the tables of a book
  pub record IsIdleBook (conn : Held S) : Type 0 where
    pub idle : IsIdle (state g conn)
    pub has : HasSchema (state g conn)

  -- outside a transaction, over a database that has the tables of a book or of an older one
  pub record IsIdleKnown (conn : Held S) : Type 0 where
    pub idle : IsIdle (state g conn)
    pub has : HasCleanDisk (state g conn) → IsKnown (tables_at conn).schema

  -- outside a transaction, over a database whose tables have what each plan counts
  pub record IsIdleCounting (conn : Held S) : Type 0 where
    pub idle : IsIdle (state g conn)
    pub has : HasCleanDisk (state g conn) → HasCounts (tables_at conn).schema

  -- outside a transaction, over a database that has the tables of an older book
  pub record IsIdleOlder (older : OlderSchema) (conn : Held S) : Type 0 where
    pub idle : IsIdle (state g conn)
    pub has : HasCleanDisk (state g conn) → (tables_at conn).schema ≡ schema_of older

  -- a query that changes nothing: if it succeeds, the database is open
  pub record Peeks {T E : Type 0} (old new : Held S) (result : Result T E) : Type 0 where
    pub looks : LooksAtTables (state g old) (state g new)
    pub stays_open : HasCleanDisk (state g new) → OnOk result (IsTrue (state g new).is_open)

  -- queries that change nothing: if they succeed, the database is open and its rows are such
  pub record Examines {T E : Type 0} (old new : Held S) (Holds : Trees → Type 0)
      (result : Result T E) : Type 0 where
    pub looks : LooksAtTables (state g old) (state g new)
    pub stays_open : HasCleanDisk (state g new) → OnOk result (IsTrue (state g new).is_open)
    pub holds : HasCleanDisk (state g new) → OnOk result (Holds (tables_at old).trees)

-- ---- what an answer says

-- a row of an answer says this plan: class, block, unit
pub record ShowsPlan (plan : Plan) (row : Row) : Type 0 where
  pub class : column row 0 ≡ Blob plan.class
  pub block : column row 1 ≡ Int (pos plan.block)
  pub unit : column row 2 ≡ Int (pos plan.unit)

-- a row of an answer says what this plan counts: class, mode
pub record ShowsCount (plan : Plan) (row : Row) : Type 0 where
  pub class : column row 0 ≡ Blob plan.class
  pub mode : column row 1 ≡ Int (pos (mode_of plan.count))

-- a row of an answer says of the plan what its table says of plans
abbrev pub Says : PlanTable → Plan → Row → Type 0
Says Prices plan row = ShowsPlan plan row
Says Counts plan row = ShowsCount plan row

-- a row of the answer says it of the plan
abbrev pub IsShownIn : PlanTable → List Row → Plan → Type 0
IsShownIn table rows plan = (row : Row) × Has rows row × Says table plan row

-- the row says it of one of the plans
abbrev pub IsPlanIn : PlanTable → List Plan → Row → Type 0
IsPlanIn table plans row = (plan : Plan) × Has plans plan × Says table plan row

-- the answer says it of these plans and nothing else
abbrev pub AreShown : PlanTable → List Plan → List Row → Type 0
AreShown table plans rows = AllByRecursion (IsShownIn table rows) plans
    × AllByRecursion (IsPlanIn table plans) rows

-- the answer is one number
abbrev pub IsSchemaNumber : ℤ → List Row → Type 0
IsSchemaNumber n rows = (row : Row) × (rows ≡ row ∷ []) × (column row 0 ≡ Int n)

-- the answer has no number
abbrev pub HasNone : List Row → Type 0
HasNone rows = (row : Row) (n : ℤ) → Has rows row → column row 0 ≢ Int n

-- what the answer is instead of the wanted number
abbrev pub IsSchemaNumberFault : ℤ → List Row → SqlBookError → Type 0
IsSchemaNumberFault wanted rows NotABook = HasNone rows
IsSchemaNumberFault wanted rows (WrongSchema n) = IsSchemaNumber n rows × (n ≢ wanted)
IsSchemaNumberFault wanted rows PlansDiffer = ⊥
IsSchemaNumberFault wanted rows Unavailable = Unit {0}

-- what the tables have instead of the wanted number
abbrev pub IsNumberFault : ℤ → Trees → SqlBookError → Type 0
IsNumberFault wanted db NotABook = (n : ℤ) → ¬ (HasNumber n db)
IsNumberFault wanted db (WrongSchema n) = (n ≢ wanted) × HasNumberAlone n db
IsNumberFault wanted db PlansDiffer = ⊥
IsNumberFault wanted db Unavailable = Unit {0}

-- why other tables than the wanted ones are refused, whose number would be this
abbrev pub IsUnknownFault : ℤ → SqlBookError → Type 0
IsUnknownFault wanted NotABook = Unit {0}
IsUnknownFault wanted (WrongSchema n) = n ≢ wanted
IsUnknownFault wanted PlansDiffer = ⊥
IsUnknownFault wanted Unavailable = Unit {0}

-- the store or an allocation failed, or the limit on steps was reached
abbrev pub is_failure : Error → Bool
is_failure (SqliteFailure code.OutOfMemory) = true
is_failure (SqliteFailure code.SystemIoFailure) = true
is_failure (SqliteFailure code.DatabaseCorrupt) = true
is_failure (SqliteFailure code.DiskFull) = true
is_failure (SqliteFailure code.Closed) = true
is_failure (SqliteFailure code.TooBig) = true
is_failure (SqliteFailure code.OperationInterrupted) = true
is_failure _ = false

-- the kept plans are not these, which is all that a table of plans is refused for
abbrev pub IsPlanFault : Type 0 → SqlBookError → Type 0
IsPlanFault Kept NotABook = ⊥
IsPlanFault Kept (WrongSchema n) = ⊥
IsPlanFault Kept PlansDiffer = ¬ Kept
IsPlanFault Kept Unavailable = Unit {0}
