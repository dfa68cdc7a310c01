-- The making of a book, in a transaction over what was committed before.
use Rattle.std.specs.Prelude.{◌≡◌, ℕ, true, List, [], Ok, IsTrue}
use Rattle.sqlite.specs.Tree.{Trees}
use Rattle.sqlite.specs.Change.{KeepsRows}
use Rattle.sqlite.specs.Effect.{Database, IsDatabase}
use Rattle.sqlite.specs.State.{State, ExecutesInside}
use Rattle.acct_model.specs.declared.plan.Plan.{Plan}
use Rattle.acct_sql_tables.specs.Tables.{book_schema, first_schema, meta, price_plan, account}
use Rattle.acct_sql_tables.specs.Tables.{voucher, session, plan_count, session_plan}
use Rattle.acct_sql_tables.specs.Book.{IsBook, IsOpenBook}
use Rattle.acct_book.specs.Content.{empty_content}
use Rattle.acct_sql_tables.specs.Tables.{own_number}
use Rattle.acct_sql_tables.specs.Content.{content_without_plans}
use Rattle.acct_sql_tables.specs.Make.{IsNew, KeepsNumber, KeepsPrices, KeepsCounts}

-- the first five tables are there, and none has a row
pub record AreFirstEmpty (db : Database) : Type 0 where
  pub schema : db.schema ≡ first_schema
  pub sound : IsDatabase db
  pub meta_rows : db.trees meta.tree ≡ []
  pub plans : db.trees price_plan.tree ≡ []
  pub accounts : db.trees account.tree ≡ []
  pub vouchers : db.trees voucher.tree ≡ []
  pub sessions : db.trees session.tree ≡ []

-- the tables are there, and none has a row
pub record AreEmpty (db : Database) : Type 0 where
  pub schema : db.schema ≡ book_schema
  pub sound : IsDatabase db
  pub meta_rows : db.trees meta.tree ≡ []
  pub plans : db.trees price_plan.tree ≡ []
  pub accounts : db.trees account.tree ≡ []
  pub vouchers : db.trees voucher.tree ≡ []
  pub sessions : db.trees session.tree ≡ []
  pub counts : db.trees plan_count.tree ≡ []
  pub session_plans : db.trees session_plan.tree ≡ []

-- a statement without parameters ran
abbrev pub HasRun : List ℕ → State → State → Type 0
HasRun sql old new = (n : ℕ) × ExecutesInside 0 sql [] old new (Ok n)

-- the transaction continues, and nothing was committed in it
pub record GoesOn (committed : Database) (s : State) : Type 0 where
  pub is_open : IsTrue s.is_open
  pub mode : s.in_transaction ≡ true
  pub committed_is : s.committed ≡ committed

-- the first five tables were made
pub record HasFirstTables (committed : Database) (s : State) : Type 0 where
  pub on : GoesOn committed s
  pub empty : AreFirstEmpty s.now

-- the two tables of plans were made too, and no table has other rows than before
pub record HasPlanTables (old new : State) : Type 0 where
  pub schema : new.now.schema ≡ book_schema
  pub sound : IsDatabase new.now
  pub counts : new.now.trees plan_count.tree ≡ []
  pub session_plans : new.now.trees session_plan.tree ≡ []
  pub others : KeepsRows first_schema.tables old.now.trees new.now.trees
  pub is_open : IsTrue new.is_open
  pub mode : new.in_transaction ≡ true
  pub committed_is : new.committed ≡ old.committed

-- the tables were made
pub record HasTables (committed : Database) (s : State) : Type 0 where
  pub on : GoesOn committed s
  pub empty : AreEmpty s.now

-- the book has the prices of the first plans so far, and what the second count; its other tables
-- are as they were at first
pub record HasPlansSoFar (committed : Database) (first : Trees) (prices counts : List Plan)
    (s : State) : Type 0 where
  pub on : GoesOn committed s
  pub book : IsBook s.now
  pub metas : s.now.trees meta.tree ≡ first meta.tree
  pub accounts : s.now.trees account.tree ≡ first account.tree
  pub vouchers : s.now.trees voucher.tree ≡ first voucher.tree
  pub sessions : s.now.trees session.tree ≡ first session.tree
  pub session_plans : s.now.trees session_plan.tree ≡ first session_plan.tree
  pub prices_kept : KeepsPrices prices s.now.trees
  pub counts_kept : KeepsCounts counts s.now.trees

-- the book has these plans so far
abbrev pub HasPlansOver : Database → Trees → List Plan → State → Type 0
HasPlansOver committed first plans s = HasPlansSoFar committed first plans plans s

-- the tables have a book's schema number, and nothing else
pub record HasNumberOnly (db : Trees) : Type 0 where
  pub content : content_without_plans db ≡ empty_content
  pub number : KeepsNumber own_number db
  pub session_plans : db session_plan.tree ≡ []

-- a new book has these plans so far
pub record HasPlans (committed : Database) (plans : List Plan) (s : State) : Type 0 where
  pub first : Trees
  pub fresh : HasNumberOnly first
  pub so_far : HasPlansOver committed first plans s

-- a book was made with these plans, and committed
pub record IsNewBook (plans : List Plan) (s : State) : Type 0 where
  pub settled : IsOpenBook s
  pub book : IsBook s.now
  pub fresh : IsNew plans s.now.trees
