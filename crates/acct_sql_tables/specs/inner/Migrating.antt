-- The making of an older book one of today's, in a transaction over what was committed before.
use Rattle.std.specs.Prelude.{◌≡◌, ◌≢◌, ◌⊎◌, ℤ, true, List, [], ◌∷◌, Option, Some, None, IsTrue}
use Rattle.std.specs.Ordering.{int_cmp}
use Rattle.std.specs.declared.cmp.Ordering.TheVariants.{Less, Greater}
use Rattle.sqlite.specs.declared.types.Value.TheVariants.{Blob}
use Rattle.sqlite.specs.Order.{Row, column}
use Rattle.sqlite.specs.Tree.{Trees, rowid}
use Rattle.sqlite.specs.Edit.{id_in}
use Rattle.sqlite.specs.Change.{KeepsRows}
use Rattle.sqlite.specs.Effect.{Database, IsDatabase}
use Rattle.sqlite.specs.State.{State}
use Rattle.sqlite_value.specs.Order.{bytes}
use Rattle.sqlite_rules.specs.Lists.{Has}
use Rattle.acct_model.specs.declared.plan.Plan.{Plan}
use Rattle.acct_model.specs.Plans.{plan_for}
use Rattle.acct_book.specs.Charge.{class_of_plan}
use Rattle.acct_sql_tables.specs.declared.sql_book_error.SqlBookError.{SqlBookError}
use Rattle.acct_sql_tables.specs.declared.sql_book_error.SqlBookError.TheVariants.{NotABook}
use Rattle.acct_sql_tables.specs.declared.sql_book_error.SqlBookError.TheVariants.{PlansDiffer}
use Rattle.acct_sql_tables.specs.declared.sql_book_error.SqlBookError.TheVariants.{WrongSchema}
use Rattle.acct_sql_tables.specs.declared.sql_book_error.SqlBookError.TheVariants.{Unavailable}
use Rattle.acct_sql_tables.specs.Tables.{book_schema, first_schema, second_schema, meta, account}
use Rattle.acct_sql_tables.specs.Tables.{voucher}
use Rattle.acct_sql_tables.specs.Tables.{session, session_plan, own_number}
use Rattle.acct_sql_tables.specs.Tidy.{IsTidy}
use Rattle.acct_sql_tables.specs.Book.{IsBook}
use Rattle.acct_sql_tables.specs.Make.{HasNumber, KeepsPrices, KeepsCounts}
use Rattle.acct_sql_tables.specs.Look.{HasNumberAlone}
use Rattle.acct_sql_tables.specs.declared.older_schema.OlderSchema.{OlderSchema}
use Rattle.acct_sql_tables.specs.Migrate.{number_of, other_number, schema_of, KeepsOlderPlans}
use Rattle.acct_sql_tables.specs.Migrate.{IsMigrated}
use Rattle.acct_sql_tables.specs.inner.Inside.{HasBecome, IsBookOf}

-- ---- an older book

-- rowids distinguish the rows of the first tables
pub record AreFirstTidy (db : Trees) : Type 0 where
  pub metas : IsTidy (db meta.tree)
  pub accounts : IsTidy (db account.tree)
  pub vouchers : IsTidy (db voucher.tree)
  pub sessions : IsTidy (db session.tree)

-- The rows are those of an older book of these plans. Those of the first tables are distinguished
-- by their rowids.
pub record HasOlderRows (older : OlderSchema) (plans : List Plan) (db : Trees) : Type 0 where
  pub number : HasNumberAlone (number_of older) db
  pub plans_kept : KeepsOlderPlans older plans db
  pub tidy : AreFirstTidy db

-- it is an older book of these plans, whose rowids distinguish its rows
pub record IsOlderBook (older : OlderSchema) (plans : List Plan) (db : Database) : Type 0 where
  pub schema : db.schema ≡ schema_of older
  pub rows : HasOlderRows older plans db.trees

-- the number is none that older books have
abbrev pub IsNoOlder : ℤ → Type 0
IsNoOlder n = (older : OlderSchema) → n ≢ number_of older

-- what the older tables have instead of their number
abbrev pub IsOlderNumberFault : OlderSchema → Trees → SqlBookError → Type 0
IsOlderNumberFault older db NotABook = ((n : ℤ) → ¬ (HasNumber n db))
    ⊎ HasNumberAlone (other_number older) db
IsOlderNumberFault older db (WrongSchema n) = IsNoOlder n × HasNumberAlone n db
IsOlderNumberFault older db PlansDiffer = ⊥
IsOlderNumberFault older db Unavailable = Unit {0}

-- why the rows are not those of an older book
abbrev pub IsOlderFault : OlderSchema → List Plan → Trees → SqlBookError → Type 0
IsOlderFault older plans db NotABook = ((n : ℤ) → ¬ (HasNumber n db))
    ⊎ HasNumberAlone (other_number older) db
IsOlderFault older plans db (WrongSchema n) = IsNoOlder n × HasNumberAlone n db
IsOlderFault older plans db PlansDiffer = HasNumberAlone (number_of older) db
    × ¬ (KeepsOlderPlans older plans db)
IsOlderFault older plans db Unavailable = Unit {0}

-- why tables that are no older book's are refused
abbrev pub IsNoOlderFault : SqlBookError → Type 0
IsNoOlderFault NotABook = Unit {0}
IsNoOlderFault (WrongSchema n) = IsNoOlder n
IsNoOlderFault PlansDiffer = ⊥
IsNoOlderFault Unavailable = Unit {0}

-- ---- a walk through the sessions by their rowids

-- the session is after this rowid, if there is one
abbrev pub IsAfter : Option ℤ → Row → Type 0
IsAfter None s = Unit {0}
IsAfter (Some id) s = int_cmp (id_in (rowid s)) id ≡ Greater

-- a row of an answer shows this session: rowid, client, id, class
pub record ShowsClass (s row : Row) : Type 0 where
  pub rowid_is : column row 0 ≡ rowid s
  pub client : column row 1 ≡ column s 1
  pub id : column row 2 ≡ column s 2
  pub class : column row 3 ≡ column s 4

-- an answer shows the first session after this rowid, or there is none
abbrev pub ShowsNext : Option ℤ → Trees → List Row → Type 0
ShowsNext last db [] = (s : Row) → Has (db session.tree) s → ¬ IsAfter last s
ShowsNext last db (row ∷ more) = (s : Row) × Has (db session.tree) s × IsAfter last s
    × ShowsClass s row
    × ((t : Row) → Has (db session.tree) t → IsAfter last t
    → int_cmp (id_in (rowid t)) (id_in (rowid s)) ≢ Less)

-- a row of `session_plan` is that of a session: client, id, class
pub record IsClassRow (plans : List Plan) (s row : Row) : Type 0 where
  pub client : column row 1 ≡ column s 1
  pub id : column row 2 ≡ column s 2
  pub plan : column row 3 ≡ Blob (class_of_plan (plan_for plans (bytes (column s 4))))

-- each session up to this rowid has its row
abbrev pub HaveClasses : List Plan → Option ℤ → Trees → Type 0
HaveClasses plans last db = (s : Row) → Has (db session.tree) s → ¬ IsAfter last s
    → (row : Row) × Has (db session_plan.tree) row × IsClassRow plans s row

-- ---- the transaction

-- the table of the sessions' plans was added to those of schema number 2
pub record HasSessionPlans (old new : State) : Type 0 where
  pub schema : new.now.schema ≡ book_schema
  pub sound : IsDatabase new.now
  pub session_plans : new.now.trees session_plan.tree ≡ []
  pub others : KeepsRows second_schema.tables old.now.trees new.now.trees
  pub is_open : IsTrue new.is_open
  pub mode : new.in_transaction ≡ true
  pub committed_is : new.committed ≡ old.committed

-- the tables that an older book of these plans lacks were added to its own, and these counts are
-- kept
pub record HasTablesOver (older : OlderSchema) (plans counts : List Plan) (s : State) : Type 0 where
  pub schema : s.now.schema ≡ book_schema
  pub sound : IsDatabase s.now
  pub counts_kept : KeepsCounts counts s.now.trees
  pub session_plans : s.now.trees session_plan.tree ≡ []
  pub others : KeepsRows first_schema.tables s.committed.trees s.now.trees
  pub was : HasOlderRows older plans s.committed.trees

-- the number, these counts and the plans of the sessions up to a rowid were written
pub record HasWritten (plans counts : List Plan) (last : Option ℤ) (s : State) : Type 0 where
  pub is_open : IsTrue s.is_open
  pub mode : s.in_transaction ≡ true
  pub book : IsBook s.now
  pub number : HasNumberAlone own_number s.now.trees
  pub accounts : s.now.trees account.tree ≡ s.committed.trees account.tree
  pub vouchers : s.now.trees voucher.tree ≡ s.committed.trees voucher.tree
  pub sessions : s.now.trees session.tree ≡ s.committed.trees session.tree
  pub prices_kept : KeepsPrices plans s.now.trees
  pub counts_kept : KeepsCounts counts s.now.trees
  pub classes : HaveClasses plans last s.now.trees

-- all of it was written
abbrev pub HasMigrated : List Plan → State → Type 0
HasMigrated plans s = HasBecome (IsMigrated plans) s

-- an older book was made one of today's, and committed
abbrev pub IsMigratedBook : List Plan → Trees → State → Type 0
IsMigratedBook plans old s = IsBookOf (IsMigrated plans) old s
