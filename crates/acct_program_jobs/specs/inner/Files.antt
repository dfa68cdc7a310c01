-- Files as an open finds them.
use Rattle.std.specs.Prelude.{◌≡◌, Bool, Option, Some, None}
use Rattle.sqlite_disk.specs.declared.Disk.{Ghosts}
use Rattle.sqlite_wal.specs.Recovery.{Image}
use Rattle.sqlite_store.specs.FileStore.{view}
use Rattle.sqlite_store.specs.declared.store.FileStore.{FileStore}
use Rattle.sqlite.specs.Held.{Held}
use Rattle.sqlite.specs.State.{HasCleanDisk}
use Rattle.sqlite.specs.Files.{file_state, IsBlankAs, IsOpened}
use Rattle.sqlite.specs.Start.{FindsIn}
use Rattle.acct_program_jobs.specs.declared.making.Making.{Making}
use Rattle.acct_program_jobs.specs.declared.making.Making.TheVariants as how

-- whether the pages of a new book are to end in sums, if one is made
abbrev pub sums_of : Making → Option Bool
sums_of (how.New has_sums) = Some has_sums
sums_of how.Migrated = None
sums_of how.Extended = None

module _ {D : Type 0} {g : Ghosts D} where
  -- a connection that was opened over files that held the image
  abbrev pub IsOpenedOn : Image → Held (FileStore D g) → Type 0
  IsOpenedOn image c = HasCleanDisk (file_state c) → IsOpened c × FindsIn image (file_state c)

  -- If the files held no database, the pages of the new one end in sums as requested.
  abbrev pub HasSums : Image → Bool → Held (FileStore D g) → Type 0
  HasSums image has_sums c = HasCleanDisk (file_state c) → IsBlankAs has_sums image
      → (view c.store).has_sums ≡ has_sums
