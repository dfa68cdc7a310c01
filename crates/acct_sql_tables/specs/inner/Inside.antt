-- What a call does inside a transaction, and what the end of the transaction makes of it.
use Rattle.std.specs.Prelude.{◌≡◌, ◌≢◌, ◌⊎◌, ℕ, ℤ, List, [], ◌∷◌, false, true, bytes_eq, Option}
use Rattle.std.specs.Prelude.{Some, None, Ok, Result, IsTrue, IsOk, OnOk, OnErr}
use Rattle.std.specs.Borrow.{MutBor}
use Rattle.std.specs.Map.{update}
use Rattle.sqlite.specs.Store.{Ghosts}
use Rattle.sqlite.specs.Held.{Held, state}
use Rattle.sqlite.specs.Order.{Row}
use Rattle.sqlite.specs.Tree.{Trees}
use Rattle.sqlite.specs.State.{State, HasCleanDisk, Shows, KeepsCommit, IsRolledBack, Survives}
use Rattle.sqlite.specs.State.{ExecutesInside}
use Rattle.acct_model.specs.Vouchers.{TopUpFacts}
use Rattle.acct_book.specs.declared.key.Key.{Key}
use Rattle.acct_book.specs.Row.{RowFacts}
use Rattle.acct_book.specs.Content.{Content, same_key, key_of}
use Rattle.acct_sql_tables.specs.Content.{content_in_tables, content_without_plans}
use Rattle.acct_sql_tables.specs.Content.{plans_in_tables}
use Rattle.acct_sql_tables.specs.Book.{IsBook, IsOpenBook, HasSamePlans}

-- ---- the parts of a write

-- with this row
abbrev pub with_row : Content → RowFacts → Content
with_row content row = record {
  rows = update same_key content.rows (key_of row) (Some row);
  balances = content.balances;
  topups = content.topups;
  plans = content.plans;
}

-- without what is under these keys
abbrev pub without_keys : {X : Type 0} → (Key → Option X) → List Key → Key → Option X
without_keys at [] = at
without_keys at (key ∷ keys) = without_keys (update same_key at key None) keys

-- without the rows of these keys
abbrev pub without_rows : Content → List Key → Content
without_rows content keys = record {
  rows = without_keys content.rows keys;
  balances = content.balances;
  topups = content.topups;
  plans = content.plans;
}

-- with this balance of an account
abbrev pub with_balance : Content → List ℕ → ℤ → Content
with_balance content name balance = record {
  rows = content.rows;
  balances = update bytes_eq content.balances name (Some balance);
  topups = content.topups;
  plans = content.plans;
}

-- with this voucher
abbrev pub with_voucher : Content → TopUpFacts → Content
with_voucher content topup = record {
  rows = content.rows;
  balances = content.balances;
  topups = update bytes_eq content.topups topup.voucher (Some topup);
  plans = content.plans;
}

-- ---- the call

-- while it is open, this holds of what it shows
abbrev pub Holds : {S : Type 0} → Ghosts S → (State → Type 0) → Held S → Type 0
Holds g P conn = HasCleanDisk (state g conn) → IsTrue (state g conn).is_open → P (state g conn)

-- while it is open its tables are those of a book
abbrev pub HoldsBook : {S : Type 0} → Ghosts S → Held S → Type 0
HoldsBook g conn = Holds g (λ s. IsBook s.now) conn

-- the content was changed and nothing was committed
pub record HasMade (change : Content → Content) (old new : State) : Type 0 where
  pub shows : Shows old new new.now old.committed true
  pub book : IsBook new.now
  pub content : content_in_tables new.now.trees ≡ change (content_in_tables old.now.trees)
  pub same_plans : HasSamePlans old.now.trees new.now.trees

-- The content was changed but for the plans of its sessions, and nothing was committed.
pub record HasMadeBare (change : Content → Content) (old new : State) : Type 0 where
  pub shows : Shows old new new.now old.committed true
  pub book : IsBook new.now
  pub content : content_without_plans new.now.trees ≡ change (content_without_plans old.now.trees)
  pub plans : plans_in_tables new.now.trees ≡ plans_in_tables old.now.trees
  pub same_plans : HasSamePlans old.now.trees new.now.trees

-- the plan of this row is kept for its session
abbrev pub HasPlanOf : RowFacts → State → Type 0
HasPlanOf row s = plans_in_tables s.now.trees (key_of row) ≡ Some row.plan

-- the plan of a session was set, nothing else was changed, and nothing was committed
pub record HasSetPlan (key : Key) (class : List ℕ) (old new : State) : Type 0 where
  pub shows : Shows old new new.now old.committed true
  pub book : IsBook new.now
  pub content : content_without_plans new.now.trees ≡ content_without_plans old.now.trees
  pub plans : plans_in_tables new.now.trees
      ≡ update same_key (plans_in_tables old.now.trees) key (Some class)
  pub same_plans : HasSamePlans old.now.trees new.now.trees

-- the plan of a session was removed, nothing else was changed, and nothing was committed
pub record HasRemovedPlan (key : Key) (old new : State) : Type 0 where
  pub shows : Shows old new new.now old.committed true
  pub book : IsBook new.now
  pub content : content_without_plans new.now.trees ≡ content_without_plans old.now.trees
  pub plans : plans_in_tables new.now.trees
      ≡ without_keys (plans_in_tables old.now.trees) (key ∷ [])
  pub same_plans : HasSamePlans old.now.trees new.now.trees

-- The sessions of these keys were removed, each with its plan. Nothing else was changed, and
-- nothing was committed.
pub record HasRemoved (keys : List Key) (old new : State) : Type 0 where
  pub shows : Shows old new new.now old.committed true
  pub book : IsBook new.now
  pub content : content_without_plans new.now.trees
      ≡ without_rows (content_without_plans old.now.trees) keys
  pub plans : plans_in_tables new.now.trees
      ≡ without_keys (plans_in_tables old.now.trees) keys
  pub same_plans : HasSamePlans old.now.trees new.now.trees

-- an UPDATE found a row, or it found none and an INSERT followed
abbrev pub HasPut : {S : Type 0} → Ghosts S → List ℕ → List ℕ → Row → State → State → Type 0
HasPut {S} g update insert params old new =
    ((count : ℕ) × (count ≢ 0) × ExecutesInside 0 update params old new (Ok count))
    ⊎ ((mid : Held S) × (more : ℕ) × ExecutesInside 0 update params old (state g mid) (Ok 0)
    × ExecutesInside 0 insert params (state g mid) new (Ok more))

-- a call committed nothing, whatever its result
pub record CommitsNothing {S : Type 0} (g : Ghosts S) (old new : MutBor (Held S)) : Type 0 where
  pub same_reference : new.ghost_name ≡ old.ghost_name
  pub kept : HasCleanDisk (state g new.now) → KeepsCommit (state g old.now) (state g new.now)
  pub survives : Survives (state g old.now) (state g new.now) (λ _. ⊥)

-- It committed nothing, and if it succeeded, this holds of what the connection showed before and
-- shows now.
pub record RunsInside {S T E : Type 0} (g : Ghosts S) (old new : MutBor (Held S))
    (Done : State → State → Type 0) (result : Result T E) : Type 0 where
  pub quiet : CommitsNothing g old new
  pub done : HasCleanDisk (state g new.now) → OnOk result (Done (state g old.now) (state g new.now))

-- inside a transaction, the tables of a book were made of those that were committed before
pub record HasBecome (Is : Trees → Trees → Type 0) (s : State) : Type 0 where
  pub is_open : IsTrue s.is_open
  pub mode : s.in_transaction ≡ true
  pub book : IsBook s.now
  pub is : Is s.committed.trees s.now.trees

-- ---- the end

-- the tables of a book were made of older ones, and committed
pub record IsBookOf (Is : Trees → Trees → Type 0) (old : Trees) (s : State) : Type 0 where
  pub settled : IsOpenBook s
  pub book : IsBook s.now
  pub is : Is old s.now.trees

-- how a transaction ended whose statements returned this
pub record HasFinished {T E F : Type 0} (done : Result T F) (mid end : State) (result : Result T E)
    : Type 0 where
  pub ended : end.in_transaction ≡ false
  pub ok : HasCleanDisk end → OnOk result (IsOk done × Shows mid end mid.now mid.now false)
  pub err : HasCleanDisk end → OnErr result (IsRolledBack mid end
      ⊎ (IsOk done × (mid.in_transaction ≡ false)))
  pub survives : Survives mid end (λ db. IsOk done × (db ≡ mid.now.trees))
