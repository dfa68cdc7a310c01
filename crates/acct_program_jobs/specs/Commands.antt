-- What each command does with the book of a file, what it prints, and what it leaves.
use Rattle.std.specs.Prelude.{◌≡◌, ◌⊎◌, ℕ, List, Option, Result, Ok, Err}
use Rattle.sqlite_disk.specs.declared.Disk as disk
use Rattle.sqlite_disk.specs.declared.Files.{Files}
use Rattle.sqlite_wal.specs.Recovery.{Image}
use Rattle.sqlite_store.specs.declared.store.FileStore.{FileStore}
use Rattle.sqlite.specs.Held.{Held}
use Rattle.sqlite.specs.State.{HasCleanDisk}
use Rattle.sqlite.specs.Files.{file_state}
use Rattle.acct_model.specs.declared.plan.Plan.{Plan}
use Rattle.acct_book.specs.declared.book.Book as book
use Rattle.acct_book.specs.Step.{Looks}
use Rattle.acct_program.specs.declared.status.Status.{Status}
use Rattle.acct_program.specs.declared.status.Status.TheVariants as status
use Rattle.acct_program_args.specs.declared.job.Export.{Export}
use Rattle.acct_program_commands.specs.Exports.{Exports, IsExportFault}
use Rattle.acct_program_commands.specs.declared.fault.Fault.{Fault}
use Rattle.acct_program_jobs.specs.declared.left.Left.{Left}
use Rattle.acct_program_jobs.specs.declared.left.Left.TheVariants as left
use Rattle.acct_program_jobs.specs.Files.{IsBookOf, IsOther, IsUnfound, IsUnclosed, Copies}

module _ {D : Type 0} {g : disk.Ghosts D} where
  -- what was done from the book that the files held to this one
  pub record Worked (image : Image) (plans : List Plan)
      (Did : Held (FileStore D g) → Held (FileStore D g) → Type 0)
      (last : Held (FileStore D g)) : Type 0 where
    pub first : Held (FileStore D g)
    pub adopted : HasCleanDisk (file_state first) → IsBookOf image plans first
    pub did : Did first last

  module _ (image : Image) (plans : List Plan)
      (Did : Result Status Fault → Held (FileStore D g) → Held (FileStore D g) → Type 0) where
    -- a command ended well, and closed its book
    pub record Closes (ended : Status) (files : Files D) : Type 0 where
      pub last : Held (FileStore D g)
      pub copied : Copies last files
      pub worked : Worked image plans (Did (Ok ended)) last

    -- all was done, and then the close failed
    pub record FailsToClose (told : Fault) (rest : Left D g) : Type 0 where
      pub last : Held (FileStore D g)
      pub unclosed : IsUnclosed last told rest
      pub ended : Status
      pub worked : Worked image plans (Did (Ok ended)) last

    -- where a fault ended a command: before it had a book, in its own work, or in the close
    abbrev pub FailsAt : Fault → Left D g → Type 0
    FailsAt told (left.Open last) =
        IsOther image plans told last ⊎ Worked image plans (Did (Err told)) last
    FailsAt told (left.Unclosed rest) = FailsToClose told (left.Unclosed rest)
    FailsAt told rest = IsUnfound image told rest

    -- a command that a fault ended
    pub record Fails (told : Fault) (rest : Left D g) : Type 0 where
      pub at : FailsAt told rest

  -- why the book of a command that ended this way was not closed: a fault ended it, and the files
  -- are still open; or the close failed
  abbrev pub IsNotClosed : Result Status Fault → Held (FileStore D g) → Fault → Left D g → Type 0
  IsNotClosed (Ok status) last told rest = IsUnclosed last told rest
  IsNotClosed (Err fault) last told rest = (told ≡ fault) × (rest ≡ left.Open last)

abbrev pub well : Result Status Fault
well = Ok status.Done

abbrev pub refused : Fault → Result Status Fault
refused told = Err told

module _ {B : Type 0} (b : book.Ghosts B) (plans : List Plan) where
  -- the book was only read, and its members were written out
  abbrev pub WritesOut : Export → Option (List ℕ) → Option (List ℕ) → B → B → Type 0
  WritesOut what before after first last = Looks b first last well
      × Exports plans (b.content first) (b.is_open last) before after what

module _ {D : Type 0} {g : disk.Ghosts D} (b : book.Ghosts (Held (FileStore D g))) (image : Image)
    (plans : List Plan) where
  -- an export that a fault ended has changed nothing
  abbrev pub FailsToExport : Fault → Left D g → Type 0
  FailsToExport told (left.Open last) = IsOther image plans told last
      ⊎ (Worked image plans (λ first last. Looks b first last (refused told)) last
      × IsExportFault told)
  FailsToExport told rest = IsUnfound image told rest
