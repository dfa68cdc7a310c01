-- What the files of a book held as they were opened, and what they hold afterwards.
use Rattle.std.specs.Prelude.{◌≡◌, ◌≢◌, ◌⊎◌, ℕ, Bool, true, false, List, IsTrue, None, length}
use Rattle.sqlite_disk.specs.declared.Disk.{Ghosts}
use Rattle.sqlite_disk.specs.declared.Files.{Files}
use Rattle.sqlite_wal.specs.Recovery.{Image}
use Rattle.sqlite_wal.specs.Reads.{AreClean}
use Rattle.sqlite_trees.specs.Tree.{Trees}
use Rattle.sqlite_store.specs.declared.store.FileStore.{FileStore}
use Rattle.sqlite.specs.Effect.{Database, IsDatabase}
use Rattle.sqlite.specs.Held.{Held}
use Rattle.sqlite.specs.State.{HasCleanDisk}
use Rattle.sqlite.specs.Files.{file_state, HoldsDatabase, AreFoundIn, IsClosed}
use Rattle.sqlite.specs.Closing.{IsCopied}
use Rattle.acct_model.specs.declared.plan.Plan.{Plan}
use Rattle.acct_model.specs.Plans.{plans_added}
use Rattle.acct_sql_tables.specs.declared.sql_book_error.SqlBookError.{SqlBookError}
use Rattle.acct_sql_tables.specs.Book.{IsOpenBook}
use Rattle.acct_sql_tables.specs.Look.{HasNumberAlone, IsRefusedAs}
use Rattle.acct_sql_tables.specs.Tables.{own_number}
use Rattle.acct_sql_tables.specs.Make.{IsNew, KeepsPlans}
use Rattle.acct_sql_tables.specs.Migrate.{IsOlder, IsMigrated, IsNotMigratedAs}
use Rattle.acct_sql_upkeep.specs.Add.{AreExtended, HasAdded, IsNotAddedAs}
use Rattle.acct_sql_upkeep.specs.List.{IsUnlistedAs}
use Rattle.acct_sql_tables.specs.Tables.{no_schema}
use Rattle.acct_program_commands.specs.declared.fault.Fault.{Fault}
use Rattle.acct_program_commands.specs.declared.fault.Fault.TheVariants as fault
use Rattle.acct_program_commands.specs.declared.fault.StoreFault.TheVariants as store
use Rattle.acct_program_jobs.specs.declared.left.Left.{Left}
use Rattle.acct_program_jobs.specs.declared.left.Left.TheVariants as left
use Rattle.acct_program_jobs.specs.declared.making.Making.{Making}
use Rattle.acct_program_jobs.specs.declared.making.Making.TheVariants as how
use Rattle.acct_program_jobs.specs.Faults.{store_fault_of}

-- why files are not opened: they must not be, or no book is to be made and the book's is empty
abbrev pub IsUnlooked : Bool → Fault → Type 0
IsUnlooked true told = told ≡ fault.CannotOpen
IsUnlooked false told = (told ≡ fault.CannotOpen) ⊎ (told ≡ fault.Store store.NotABook)

-- ---- what they held

-- the trees are those that the files held, or there was no database and they are empty
pub record AreHeldIn (image : Image) (db : Trees) : Type 0 where
  pub holds : (held : Trees) → HoldsDatabase image held → db ≡ held
  pub found : AreFoundIn image db

-- the files held this database
pub record WasHeldIn (image : Image) (held : Database) : Type 0 where
  pub sound : IsDatabase held
  pub trees : AreHeldIn image held.trees

module _ {D : Type 0} {g : Ghosts D} where
  -- ---- a connection

  -- No query of it is limited. While the disk returns what was written, each later read is tested
  -- against a digest of it.
  pub record IsGuarded (c : Held (FileStore D g)) : Type 0 where
    pub shielded : HasCleanDisk (file_state c) → (file_state c).IsShielded
    pub unlimited : (file_state c).step_limit ≡ None

  -- ---- a book

  -- the book that the files held: it keeps these plans, and has the number of our schema
  pub record IsBookOf (image : Image) (plans : List Plan) (book : Held (FileStore D g)) : Type 0
    where
      pub settled : IsOpenBook (file_state book)
      pub held : AreHeldIn image (file_state book).now.trees
      pub number : HasNumberAlone own_number (file_state book).now.trees
      pub plans_kept : KeepsPlans plans (file_state book).now.trees
      pub guarded : IsGuarded book

  -- an empty book of these plans; the files held no table, index or view
  pub record IsMadeIn (image : Image) (plans : List Plan) (book : Held (FileStore D g)) : Type 0
    where
      pub settled : IsOpenBook (file_state book)
      pub fresh : IsNew plans (file_state book).now.trees
      pub held : Database
      pub was_held : WasHeldIn image held
      pub was_bare : ¬ (held.schema ≢ no_schema)

  -- the older book of these plans that the files held, migrated to a current one
  pub record IsMigratedIn (image : Image) (plans : List Plan) (book : Held (FileStore D g)) : Type 0
    where
      pub settled : IsOpenBook (file_state book)
      pub held : Database
      pub was_held : WasHeldIn image held
      pub was_older : (older : _) × IsOlder older plans held
      pub migrated : IsMigrated plans held.trees (file_state book).now.trees

  -- the book that the files held, with so many plans added to its own: together they are these
  pub record IsAddedIn (image : Image) (plans : List Plan) (count : ℕ)
      (book : Held (FileStore D g)) : Type 0 where
    pub settled : IsOpenBook (file_state book)
    pub held : Database
    pub was_held : WasHeldIn image held
    pub extended : AreExtended plans held.trees
    pub added : HasAdded plans held.trees (file_state book).now.trees
    pub counted : (kept : List Plan) → KeepsPlans kept held.trees
        → count ≡ length (plans_added kept plans)

  -- the book that is made of the files this way, with so many plans added
  abbrev pub IsMade : Making → Image → List Plan → ℕ → Held (FileStore D g) → Type 0
  IsMade (how.New has_sums) image plans count book = IsMadeIn image plans book
  IsMade how.Migrated image plans count book = IsMigratedIn image plans book
  IsMade how.Extended image plans count book = IsAddedIn image plans count book

  -- ---- none

  -- the files hold what they held: a read returns it while the connection is open, and a crash
  -- leaves it
  pub record HoldsStill (image : Image) (last : Held (FileStore D g)) : Type 0 where
    pub reads : HasCleanDisk (file_state last) → IsTrue (file_state last).is_open
        → AreHeldIn image (file_state last).now.trees
    pub leaves : HasCleanDisk (file_state last) → (db : Trees) → (file_state last).may_leave db
        → AreHeldIn image db

  -- the files hold what they held, and the fault says why that is refused
  pub record IsRefusal (image : Image) (Refuses : Database → SqlBookError → Type 0) (told : Fault)
      (last : Held (FileStore D g)) : Type 0 where
    pub still : HoldsStill image last
    pub error : SqlBookError
    pub telling : told ≡ fault.Store (store_fault_of error)
    pub why : HasCleanDisk (file_state last)
        → (held : Database) × WasHeldIn image held × Refuses held error

  -- it is no book of these plans
  abbrev pub IsOther : Image → List Plan → Fault → Held (FileStore D g) → Type 0
  IsOther image plans told last = IsRefusal image (IsRefusedAs plans) told last

  -- No book was made. The files hold what they held, except that a crash may leave the new book.
  pub record IsUnmade (image : Image) (plans : List Plan) (told : Fault)
      (last : Held (FileStore D g)) : Type 0 where
    pub reads : HasCleanDisk (file_state last) → IsTrue (file_state last).is_open
        → AreHeldIn image (file_state last).now.trees
    pub leaves : HasCleanDisk (file_state last) → (db : Trees) → (file_state last).may_leave db
        → AreHeldIn image db ⊎ IsNew plans db
    pub telling : (told ≡ fault.Store store.NotABook) ⊎ (told ≡ fault.Store store.Unavailable)
    pub why : HasCleanDisk (file_state last) → told ≡ fault.Store store.NotABook
        → (held : Database) × WasHeldIn image held × (held.schema ≢ no_schema)

  -- No book was migrated. The files hold what they held, except that a crash may leave the migrated
  -- book.
  pub record IsUnmigrated (image : Image) (plans : List Plan) (told : Fault)
      (last : Held (FileStore D g)) : Type 0 where
    pub reads : HasCleanDisk (file_state last) → IsTrue (file_state last).is_open
        → AreHeldIn image (file_state last).now.trees
    pub leaves : HasCleanDisk (file_state last) → (db : Trees) → (file_state last).may_leave db
        → AreHeldIn image db
        ⊎ ((held : Trees) × AreHeldIn image held × IsMigrated plans held db)
    pub error : SqlBookError
    pub telling : told ≡ fault.Store (store_fault_of error)
    pub why : HasCleanDisk (file_state last)
        → (held : Database) × WasHeldIn image held × IsNotMigratedAs plans held error

  -- No plan was added. The files hold what they held, except that a crash may leave the book with
  -- the added plans.
  pub record IsUnadded (image : Image) (plans : List Plan) (told : Fault)
      (last : Held (FileStore D g)) : Type 0 where
    pub reads : HasCleanDisk (file_state last) → IsTrue (file_state last).is_open
        → AreHeldIn image (file_state last).now.trees
    pub leaves : HasCleanDisk (file_state last) → (db : Trees) → (file_state last).may_leave db
        → AreHeldIn image db
        ⊎ ((held : Trees) × AreHeldIn image held × HasAdded plans held db)
    pub error : SqlBookError
    pub telling : told ≡ fault.Store (store_fault_of error)
    pub why : HasCleanDisk (file_state last)
        → (held : Database) × WasHeldIn image held × IsNotAddedAs plans held error

  -- no book was made this way
  abbrev pub IsNotMade : Making → Image → List Plan → Fault → Held (FileStore D g) → Type 0
  IsNotMade (how.New has_sums) image plans told last = IsUnmade image plans told last
  IsNotMade how.Migrated image plans told last = IsUnmigrated image plans told last
  IsNotMade how.Extended image plans told last = IsUnadded image plans told last

  -- ---- what is left

  -- no database was opened
  abbrev pub IsUnread : Image → Fault → Left D g → Type 0
  IsUnread image told left.Nothing = told ≡ fault.CannotOpen
  IsUnread image told (left.Unopened rest) = told ≡ fault.CannotOpen
  IsUnread image told (left.Open last) = ⊥
  IsUnread image told (left.Unclosed rest) = ⊥
  IsUnread image told (left.Closed files) = ⊥

  -- no database was opened that should be there: nor was an empty file, which is no book
  abbrev pub IsUnfound : Image → Fault → Left D g → Type 0
  IsUnfound image told left.Nothing = IsUnlooked false told
  IsUnfound image told rest = IsUnread image told rest

  -- why no book was adopted, and what is left of the files
  abbrev pub IsRefused : Image → List Plan → Fault → Left D g → Type 0
  IsRefused image plans told (left.Open last) = IsOther image plans told last
  IsRefused image plans told rest = IsUnfound image told rest

  -- why no plans were listed, and what is left of the files
  abbrev pub IsUnlisted : Image → Fault → Left D g → Type 0
  IsUnlisted image told (left.Open last) = IsRefusal image IsUnlistedAs told last
  IsUnlisted image told rest = IsUnfound image told rest

  -- why no book was made this way, and what is left of the files
  abbrev pub HasNotMade : Making → Image → List Plan → Fault → Left D g → Type 0
  HasNotMade making image plans told (left.Open last) = IsNotMade making image plans told last
  HasNotMade (how.New has_sums) image plans told rest = IsUnread image told rest
  HasNotMade how.Migrated image plans told rest = IsUnfound image told rest
  HasNotMade how.Extended image plans told rest = IsUnfound image told rest

  -- the two files have what the book committed, if the disk has returned what was written to it
  abbrev pub Copies : Held (FileStore D g) → Files D → Type 0
  Copies book files = AreClean g files.log files.db → IsCopied book files

  -- a close that failed left the files with what the book committed
  abbrev pub IsUnclosed : Held (FileStore D g) → Fault → Left D g → Type 0
  IsUnclosed book told (left.Unclosed rest) =
      (told ≡ fault.Store store.Unavailable) × IsClosed book rest
  IsUnclosed book told rest = ⊥
