-- What was found in the log of a book in a file.
use Rattle.std.specs.Prelude.{◌≡◌, ◌≤◌, ◌<◌, ◌⊎◌, ⊤, ℕ, Bool, true, false, List, Option, Some, None}
use Rattle.std.specs.Prelude.{IfSome}
use Rattle.std.specs.Fs.{metadata_len}
use Rattle.std.specs.declared.fs.attrs.Metadata.{Metadata}
use Rattle.acct_reads.specs.Log.{IsLogOf}
use Rattle.acct_sql_log.specs.declared.damage.Damage.{Damage}
use Rattle.acct_sql_log.specs.Commits.{TellsLater}
use Rattle.acct_sql_log.specs.Damage.{Finds}

-- a file has at least the octets of the header of a database
abbrev pub HasHeader : Option Metadata → Type 0
HasHeader (Some found) = 100 ≤ metadata_len found
HasHeader None = ⊥

-- nothing is said of it, or it has fewer octets
abbrev pub HasNoHeader : Option Metadata → Type 0
HasNoHeader (Some found) = metadata_len found < 100
HasNoHeader None = ⊤

module _ {R : Type 0} (leads_to : List ℕ → Option (List ℕ) → Type 0)
    (was_opened : List ℕ → Option R → Type 0) where
  -- this file was opened under the name of the log of this book, or there was none
  abbrev pub IsOpenedLog : List ℕ → Option R → Type 0
  IsOpenedLog book file = (name : List ℕ) × IsLogOf leads_to book name × was_opened name file

  module _ (remaining : R → Option (List ℕ)) where
    -- what is found in all octets of a file; in none nothing is
    abbrev pub FindsIn : Option R → Option Damage → Type 0
    FindsIn None found = found ≡ None
    FindsIn (Some file) found = IfSome (remaining file) (λ octets. Finds octets found)

    -- the log of this book was opened, and this was found in it
    abbrev pub HasFound : List ℕ → Option Damage → Type 0
    HasFound book found = (file : Option R) × IsOpenedLog book file × FindsIn file found

    -- whether a file, if there is one, is a log with commits that no `init` made
    abbrev pub TellsLaterIn : Option R → Bool → Type 0
    TellsLaterIn None later = later ≡ false
    TellsLaterIn (Some file) later = IfSome (remaining file) (λ octets. TellsLater octets later)

    module _ (was_asked : List ℕ → Option Metadata → Type 0) where
      -- the system said so of the file of a book, and it has a header or not
      abbrev pub WasAskedOf : List ℕ → (Option Metadata → Type 0) → Type 0
      WasAskedOf book Is = (found : Option Metadata) × was_asked book found × Is found

      -- a book's file has no header, and its log was opened, and has such commits or not
      abbrev pub IsWithoutBook : List ℕ → Bool → Type 0
      IsWithoutBook book later = WasAskedOf book HasNoHeader
          × (file : Option R) × IsOpenedLog book file × TellsLaterIn file later

      -- whether the log of a book that is lost lies beside its name
      abbrev pub TellsLost : List ℕ → Bool → Type 0
      TellsLost book true = IsWithoutBook book true
      TellsLost book false = WasAskedOf book HasHeader ⊎ IsWithoutBook book false
