-- What was looked at before the files of a book are opened.
use Rattle.std.specs.Prelude.{◌≡◌, ◌≤◌, ◌<◌, ◌⊎◌, ⊤, ℕ, Bool, true, false, List, Option, None, Some}
use Rattle.std.specs.Fs.{IsFile, file_type, metadata_len}
use Rattle.std.specs.declared.fs.attrs.Metadata.{Metadata}
use Rattle.acct_reads.specs.Log.{IsLogOf}
use Rattle.acct_sql_log.specs.Beside.{HasFound, TellsLost}
use Rattle.acct_sql_log.specs.declared.damage.Damage.{Damage}

-- a regular file with at least the octets of the header of a database
abbrev pub IsDatabaseFile : Option Metadata → Type 0
IsDatabaseFile (Some found) = IsFile (file_type found) × (100 ≤ metadata_len found)
IsDatabaseFile None = ⊥

-- no such file, or one of which nothing is said
abbrev pub IsNoDatabase : Option Metadata → Type 0
IsNoDatabase found = ¬ IsDatabaseFile found

-- a regular file without an octet
abbrev pub IsEmptyFile : Option Metadata → Type 0
IsEmptyFile (Some found) = IsFile (file_type found) × (metadata_len found ≡ 0)
IsEmptyFile None = ⊥

-- a file that is too short for a frame of a log, or of which nothing is said
abbrev pub HasNoFrame : Option Metadata → Type 0
HasNoFrame (Some found) = metadata_len found ≤ 32
HasNoFrame None = ⊤

-- a file that is long enough for one
abbrev pub HasFrame : Option Metadata → Type 0
HasFrame (Some found) = 32 < metadata_len found
HasFrame None = ⊥

module _ {R : Type 0} (leads_to : List ℕ → Option (List ℕ) → Type 0)
    (was_opened : List ℕ → Option R → Type 0) (remaining : R → Option (List ℕ))
    (was_asked : List ℕ → Option Metadata → Type 0) where
  -- The log of this book was read and has no damage, or its commits may be lost.
  abbrev pub IsReadable : List ℕ → Bool → Type 0
  IsReadable book may_be_lost =
      (may_be_lost ≡ true) ⊎ HasFound leads_to was_opened remaining book None

  -- Whether the log of this book may be read. If it may not, it was read and has this damage.
  abbrev pub TellsReadable : List ℕ → Bool → Bool → Type 0
  TellsReadable book may_be_lost true = IsReadable book may_be_lost
  TellsReadable book may_be_lost false = (may_be_lost ≡ false)
      × (damage : Damage) × HasFound leads_to was_opened remaining book (Some damage)

  -- The system said so of the file of this name.
  abbrev pub WasSaidOf : List ℕ → (Option Metadata → Type 0) → Type 0
  WasSaidOf name Is = (found : Option Metadata) × was_asked name found × Is found

  -- A book's name may be opened: a new book takes no other one's log, and an existing one is there.
  abbrev pub IsSeen : Bool → List ℕ → Type 0
  IsSeen true book = TellsLost leads_to was_opened remaining was_asked book false
  IsSeen false book = WasSaidOf book IsDatabaseFile

  -- Whether the log of this book is long enough for a frame.
  abbrev pub TellsFrames : List ℕ → Bool → Type 0
  TellsFrames book true =
      (log : List ℕ) × IsLogOf leads_to book log × WasSaidOf log HasFrame
  TellsFrames book false =
      (log : List ℕ) × IsLogOf leads_to book log × WasSaidOf log HasNoFrame

  -- An existing book is an empty file, without a log that has a frame.
  abbrev pub IsEmptyBook : List ℕ → Type 0
  IsEmptyBook book = WasSaidOf book IsEmptyFile × TellsFrames book false

  -- The files of a book, which is new or not, were looked at, and may be opened.
  abbrev pub MayOpen : Bool → List ℕ → Bool → Type 0
  MayOpen is_new book may_be_lost = IsSeen is_new book × IsReadable book may_be_lost
