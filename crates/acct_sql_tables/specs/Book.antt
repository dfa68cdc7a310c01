-- The database of a book, and what a crash may leave.
use Rattle.std.specs.Prelude.{◌≡◌, ◌↔◌, false, Result, IsTrue}
use Rattle.sqlite.specs.Store.{Ghosts}
use Rattle.sqlite.specs.Held.{Held, state}
use Rattle.sqlite.specs.Tree.{Trees}
use Rattle.sqlite.specs.Effect.{Database, IsDatabase}
use Rattle.sqlite.specs.State.{State, HasCleanDisk, Survives}
use Rattle.acct_book.specs.Content.{Content}
use Rattle.acct_book.specs.Book.{Reads, Writes}
use Rattle.acct_sql_tables.specs.Tables.{book_schema, account, voucher, session, session_plan}
use Rattle.acct_sql_tables.specs.Tables.{meta, price_plan, plan_count}
use Rattle.acct_sql_tables.specs.Tidy.{IsTidy}
use Rattle.acct_sql_tables.specs.Content.{content_in_tables}

pub record IsBook (db : Database) : Type 0 where
  pub schema : db.schema ≡ book_schema
  pub sound : IsDatabase db
  pub accounts : IsTidy (db.trees account.tree)
  pub vouchers : IsTidy (db.trees voucher.tree)
  pub sessions : IsTidy (db.trees session.tree)
  pub plans : IsTidy (db.trees session_plan.tree)

abbrev pub IsTelling : State → Type 0
IsTelling s = HasCleanDisk s × IsTrue s.is_open

-- its content can still be read, and all of it is committed
abbrev pub IsOpenBook : State → Type 0
IsOpenBook s = IsTelling s × (s.now ≡ s.committed)

-- outside a transaction, with all that it holds committed if it was not shut
pub record IsResting (s : State) : Type 0 where
  pub autocommit : s.in_transaction ≡ false
  pub settled : HasCleanDisk s → IsTrue s.is_open → s.now ≡ s.committed
  pub book : HasCleanDisk s → IsTrue s.is_open → IsBook s.now

-- the rows of the schema number, of the plans and of what they count are as they were
pub record HasSamePlans (old new : Trees) : Type 0 where
  pub number : new meta.tree ≡ old meta.tree
  pub prices : new price_plan.tree ≡ old price_plan.tree
  pub counts : new plan_count.tree ≡ old plan_count.tree

-- A call leaves them so: in what the book shows at its end, and in anything that a crash may leave
-- that it could not leave before.
pub record LeavesPlans (old new : State) : Type 0 where
  pub shows : IsOpenBook new → HasSamePlans old.now.trees new.now.trees
  pub survives : Survives old new (λ db. IsOpenBook old × HasSamePlans old.now.trees db)

-- what a crash now may leave
abbrev pub Left : State → Content → Type 0
Left s content = (db : Trees) × s.may_leave db × (content ≡ content_in_tables db)

-- ---- a connection as a book

module _ {S : Type 0} (g : Ghosts S) where
  abbrev pub content_at : Held S → Content
  content_at conn = content_in_tables (state g conn).now.trees

  abbrev pub is_sound_at : Held S → Type 0
  is_sound_at conn = HasCleanDisk (state g conn)

  abbrev pub is_open_at : Held S → Type 0
  is_open_at conn = IsOpenBook (state g conn)

  abbrev pub is_steady_at : Held S → Type 0
  is_steady_at conn = ⊥

  abbrev pub left_at : Held S → Content → Type 0
  left_at conn content = Left (state g conn) content

  -- the content was changed so, or it is as it was
  abbrev pub Wrote : {T E : Type 0} → Held S → Held S → (Content → Content) → Result T E → Type 0
  Wrote old new change result = Writes content_at is_sound_at is_open_at is_steady_at left_at old
      new (change (content_at old)) result

  -- the content is as it was
  abbrev pub HasReadBook : {T E : Type 0} → Held S → Held S → Result T E → Type 0
  HasReadBook old new result = Reads content_at is_sound_at is_open_at is_steady_at left_at old new
      result

-- The tables of a book determine its properties. Their columns are its content. It is sound and
-- open as the connection is. A crash may leave what the store may leave.
pub record IsBookOver {S : Type 0} (g : Ghosts S) (content : Held S → Content)
    (is_sound is_open : Held S → Type 0) (left : Held S → Content → Type 0) (book : Held S) : Type 0
  where
    pub content_is : content book ≡ content_in_tables (state g book).now.trees
    pub sound_is : is_sound book ↔ HasCleanDisk (state g book)
    pub open_is : is_open book ↔ IsOpenBook (state g book)
    pub left_is : (c : Content) → left book c ↔ Left (state g book) c
