-- How a refusal of attributes is a reason for a drop.
use Rattle.std.specs.Prelude.{◌≡◌, ◌⊎◌, ℕ, List, Option, None}
use Rattle.acct_model.specs.declared.entry.Entry.{Entry}
use Rattle.acct_model.specs.declared.entry_reader.EntryError.{EntryError}
use Rattle.acct_model.specs.declared.entry_reader.EntryError.TheVariants as entry
use Rattle.acct_model.specs.Entries.{Attributes, refusal_of, RefusesEntry, IsEntryOf}
use Rattle.acct_wire.specs.declared.hearing.Stamping.{Stamping}
use Rattle.acct_wire.specs.Clients.{ClientsFacts}
use Rattle.acct_wire.specs.Hearing.{heard, teller}
use Rattle.acct_wire.specs.declared.reason.Reason.{Reason}
use Rattle.acct_wire.specs.declared.reason.Reason.TheVariants.{NoStatus}
use Rattle.acct_wire.specs.declared.reason.Reason.TheVariants.{UnknownStatus, NoSessionId, BadField}
use Rattle.acct_wire.specs.declared.reason.Reason.TheVariants.{TotalTooLarge}
use Rattle.acct_wire.specs.declared.reason.Reason.TheVariants.{Unavailable, TooOld}
use Rattle.acct_wire.specs.Datagrams.{Breaks, IsAsking, AsksTooOld}

-- the attributes are faultless and spell this entry, as it is heard from the client of this name
abbrev pub SpellsEntry : Option Stamping → List ℕ → Attributes → ℕ → Entry → Type 0
SpellsEntry stamping name attributes moment asked =
    (refusal_of attributes ≡ None)
    × IsEntryOf (teller stamping name attributes) (heard stamping name attributes) moment asked

-- how a refusal of attributes is a reason
abbrev pub reason_of : EntryError → Reason
reason_of entry.NoStatus = NoStatus
reason_of entry.UnknownStatus = UnknownStatus
reason_of entry.NoSessionId = NoSessionId
reason_of entry.BadField = BadField
reason_of entry.TotalTooLarge = TotalTooLarge
reason_of entry.Memory = Unavailable

-- the attributes are refused so
abbrev pub RefusesAs : Attributes → Reason → Type 0
RefusesAs attributes reason =
    (error : EntryError) × RefusesEntry (refusal_of attributes) error × (reason ≡ reason_of error)

-- Why a datagram is dropped before the book is called. It breaks a rule, or it requests an entry
-- that is too old, or for which there was no memory.
abbrev pub IsDropped : Option ℕ → ClientsFacts → List ℕ → List ℕ → ℕ → Reason → Type 0
IsDropped oldest clients source bytes moment reason =
    Breaks clients source bytes reason
    ⊎ (((reason ≡ TooOld) × AsksTooOld oldest clients source bytes moment)
    ⊎ ((reason ≡ Unavailable) × IsAsking clients source bytes))
