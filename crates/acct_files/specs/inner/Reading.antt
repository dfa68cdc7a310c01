-- How the records of a text are read.
use Rattle.std.specs.Prelude.{◌≡◌, ◌⊎◌, ◌+◌, ◌<◌, ℕ, true, false, List, [], ◌∷◌, Option, Some}
use Rattle.std.specs.Prelude.{IfSome}
use Rattle.csv.specs.Reading.{Ready, Reached, default_config, source_of, reader_config}
use Rattle.csv.specs.Reading.{reader_state, reader_trim}
use Rattle.csv.specs.declared.parser.State.TheVariants as st
use Rattle.csv.specs.declared.reader.Reader.{Reader}
use Rattle.csv.specs.declared.reader.Trim.TheVariants as trim
use Rattle.acct_files.specs.declared.capped.Capped.{Capped}
use Rattle.acct_files.specs.declared.import_report.Stopped.{Stopped}
use Rattle.acct_files.specs.declared.import_report.Stopped.TheVariants as stop
use Rattle.acct_files.specs.Importing.{has_header}
use Rattle.acct_files.specs.Vouchers.{Fields, is_header}

module _ {R : Type 0} where
  -- A read within the limits, which returned so many octets. Neither limit was passed before it,
  -- and it is counted.
  pub record IsWithinLimits (old new : Capped R) (count : ℕ) : Type 0 where
    pub octets_within : 0 < old.octets_left
    pub reads_within : 0 < old.reads_left
    pub octets : new.octets_left + count ≡ old.octets_left
    pub reads : new.reads_left + 1 ≡ old.reads_left

  -- what an import reads of a text: so many octets, and one past them, in so many reads
  pub record HasLimits (text : Capped R) : Type 0 where
    pub octets : text.octets_left ≡ 67108864 + 1
    pub reads : text.reads_left ≡ 134217728

  -- the next read gives a record, by the settings of an import
  pub record IsAtRecord (rows : Reader R) : Type 0 where
    pub config : reader_config rows ≡ default_config
    pub trim : reader_trim rows ≡ trim.None
    pub ready : Ready rows

  -- these records were read from the start of a text, if it is known
  abbrev pub HasRead : (R → Option (List ℕ)) → Option (List ℕ) → List Fields → Reader R → Type 0
  HasRead remaining text rows reader = IfSome text (λ t. (rest : List ℕ)
      × (source_of remaining reader ≡ Some rest)
      × Reached default_config st.StartRecord t rows (reader_state reader) rest)

  -- the header was read from the start of a text, if it is known
  abbrev pub HasReadHeader : (R → Option (List ℕ)) → Option (List ℕ) → Reader R → Type 0
  HasReadHeader remaining text reader = (header : Fields) × (is_header header ≡ true)
      × HasRead remaining text (header ∷ []) reader

-- why a read fails: for the reader, its limits or memory
abbrev pub IsReadStop : Stopped → Type 0
IsReadStop stopped = (stopped ≡ stop.Unreadable) ⊎ (stopped ≡ stop.Memory)

-- why an import stops before the record after the header
abbrev pub IsHeaderStop : Option (List ℕ) → Stopped → Type 0
IsHeaderStop text stopped = IsReadStop stopped
    ⊎ ((stopped ≡ stop.BadHeader) × IfSome text (λ t. has_header t ≡ false))
