-- What a call makes of a book that is at rest, and what a query shows of it.
use Rattle.std.specs.Prelude.{◌≡◌, ℕ, List, true, Option, Result, Err, slice_get}
use Rattle.std.specs.Prelude.{option_map}
use Rattle.sqlite.specs.Store.{Ghosts}
use Rattle.sqlite.specs.Held.{Held, state}
use Rattle.sqlite.specs.Order.{Row}
use Rattle.sqlite.specs.State.{Shown}
use Rattle.sqlite_value.specs.Order.{column}
use Rattle.acct_book.specs.declared.key.Key.{Key}
use Rattle.acct_book.specs.Row.{RowFacts}
use Rattle.acct_book.specs.Content.{Content, key_of}
use Rattle.acct_sql_tables.specs.Book.{IsResting, is_open_at}
use Rattle.acct_sql_tables.specs.Book.{Wrote, HasReadBook, LeavesPlans}
use Rattle.acct_sql_tables.specs.Columns.{session_in_columns}
use Rattle.acct_sql_tables.specs.Content.{content_without_plans, plans_in_tables, with_plan}

module _ {S : Type 0} (g : Ghosts S) where
  -- outside a transaction, over the tables of a book
  abbrev pub IsAtRest : Held S → Type 0
  IsAtRest conn = IsResting (state g conn)

  -- the sessions but for their plans, and their plans
  abbrev pub bare_at : Held S → Content
  bare_at conn = content_without_plans (state g conn).now.trees

  abbrev pub plans_at : Held S → Key → Option (List ℕ)
  plans_at conn = plans_in_tables (state g conn).now.trees

  -- a write of the book, which is at rest again
  pub record WritesAtRest {T E : Type 0} (old new : Held S) (change : Content → Content)
      (result : Result T E) : Type 0 where
    pub resting : IsAtRest new
    pub wrote : Wrote g old new change result
    pub plans : LeavesPlans (state g old) (state g new)

  -- a read of the book, which is at rest again; while it is open it shows the same tables
  pub record ReadsAtRest {T E : Type 0} (old new : Held S) (result : Result T E) : Type 0 where
    pub resting : IsAtRest new
    pub read : HasReadBook g old new result
    pub tables : is_open_at g new → (state g new).now ≡ (state g old).now
    pub plans : LeavesPlans (state g old) (state g new)

  -- some reads, whatever their results: the book is at rest as it was
  abbrev pub StaysAtRest : Held S → Held S → Type 0
  StaysAtRest old new = ReadsAtRest {T = ℕ} {E = ℕ} old new (Err 0)

-- a query showed these rows of the book
abbrev pub HasShown : {S : Type 0} → Ghosts S → Held S → List ℕ → Row → List Row → Type 0
HasShown {S} g old sql params rows = (mid : Held S) × Shown sql params
    (state g (record old { in_transaction = true })) (state g mid) rows

-- what is read of the first row, if there is one
abbrev pub row_found : {X : Type 0} → (Row → X) → List Row → Option X
row_found read rows = option_map read (slice_get rows 0)

-- this was read of the first row that a query of the book showed
abbrev pub HasFirst : {S X : Type 0} → Ghosts S → Held S → List ℕ → Row → (Row → X) → Option X
    → Type 0
HasFirst {S} {X} g old sql params read first = (rows : List Row) × HasShown g old sql params rows
    × (row_found read rows ≡ first)

-- ---- sessions with their plans

-- the session with the plan that is kept for it
abbrev pub HasPlan : (Key → Option (List ℕ)) → RowFacts → RowFacts → Type 0
HasPlan plans bare row = row ≡ with_plan (plans (key_of bare)) bare

-- the sessions of a list, each with its plan
abbrev pub planned : (Key → Option (List ℕ)) → RowFacts → RowFacts
planned plans bare = with_plan (plans (key_of bare)) bare

-- this is the session, with its plan, of the first row that a query of the book showed
abbrev pub HasFirstSession : {S : Type 0} → Ghosts S → Held S → List ℕ → Row → Option RowFacts
    → Type 0
HasFirstSession g old sql params row = (bare : Option RowFacts)
    × HasFirst g old sql params (λ r. session_in_columns (column r)) bare
    × (row ≡ option_map (planned (plans_at g old)) bare)
