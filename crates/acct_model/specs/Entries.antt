-- The entry that a packet's attributes spell (RFC 2866, section 5; RFC 2869, sections 5.1 and 5.2).
use Rattle.std.specs.Prelude.{◌≡◌, ◌==◌, ℕ, ◌+◌, ◌*◌, ◌-◌, ◌^◌, nat_le, Bool, IsTrue, ◌||◌, Option}
use Rattle.std.specs.Prelude.{None, Some, unwrap_or, is_none, List, [], ◌∷◌, if◌then◌else◌}
use Rattle.std.specs.Prelude.{option_and_then}
use Rattle.std.specs.List.{list_any}
use Rattle.radius_codec.specs.Attributes.{value_of, word}
use Rattle.radius_codec.specs.declared.attribute_types.TheConstants as types
use Rattle.acct_model.specs.declared.status_values.TheConstants.{START, STOP, INTERIM_UPDATE}
use Rattle.acct_model.specs.declared.status_values.TheConstants.{ACCOUNTING_ON, ACCOUNTING_OFF}
use Rattle.acct_model.specs.Report.{ReportFacts}
use Rattle.acct_model.specs.declared.entry.Entry.{Entry}
use Rattle.acct_model.specs.declared.entry.Entry.TheVariants as entry
use Rattle.acct_model.specs.declared.report.ReportKind.{ReportKind}
use Rattle.acct_model.specs.declared.report.ReportKind.TheVariants.{Start, Stop, Interim}
use Rattle.acct_model.specs.declared.entry_reader.EntryError.{EntryError}
use Rattle.acct_model.specs.declared.entry_reader.EntryError.TheVariants.{NoStatus, UnknownStatus}
use Rattle.acct_model.specs.declared.entry_reader.EntryError.TheVariants.{NoSessionId, BadField}
use Rattle.acct_model.specs.declared.entry_reader.EntryError.TheVariants.{TotalTooLarge, Memory}

-- type and value of each attribute, in their order
abbrev pub Attributes : Type 0
Attributes = List (ℕ × List ℕ)

-- octets that may be absent, which are then empty
abbrev pub octets_at : ℕ → Attributes → List ℕ
octets_at kind attributes = unwrap_or (value_of kind attributes) []

-- a value read as a number: 0 if it is absent, none if it has not four octets
abbrev pub number_in : Option (List ℕ) → Option ℕ
number_in None = Some 0
number_in (Some value) = word value

-- the first number of a type, 0 if it is absent
abbrev pub number_at : ℕ → Attributes → Option ℕ
number_at kind attributes = number_in (value_of kind attributes)

-- the number, if it is one
abbrev pub count_at : ℕ → Attributes → ℕ
count_at kind attributes = unwrap_or (number_at kind attributes) 0

-- Acct-Input-Octets and Acct-Input-Gigawords, the wraps of that counter
abbrev pub input_of : Attributes → ℕ
input_of attributes =
    2 ^ 32 * count_at types.ACCT_INPUT_GIGAWORDS attributes
    + count_at types.ACCT_INPUT_OCTETS attributes

-- Acct-Output-Octets and Acct-Output-Gigawords
abbrev pub output_of : Attributes → ℕ
output_of attributes =
    2 ^ 32 * count_at types.ACCT_OUTPUT_GIGAWORDS attributes
    + count_at types.ACCT_OUTPUT_OCTETS attributes

-- Acct-Status-Type, if it is there and is a number
abbrev pub status_of : Attributes → Option ℕ
status_of attributes = option_and_then word (value_of types.ACCT_STATUS_TYPE attributes)

-- Start, Stop and Interim-Update
abbrev pub kind_of : ℕ → Option ReportKind
kind_of status =
    if status == START then Some Start
    else if status == STOP then Some Stop
    else if status == INTERIM_UPDATE then Some Interim
    else None

-- Accounting-On and Accounting-Off
abbrev pub is_restart : ℕ → Bool
is_restart status = status == ACCOUNTING_ON || status == ACCOUNTING_OFF

-- The numbers and the address that a report may have: Framed-IP-Address, Acct-Delay-Time, the
-- octets of both directions, Acct-Session-Time, Acct-Terminate-Cause and the gigawords.
abbrev pub number_types : List ℕ
number_types =
    types.FRAMED_IP_ADDRESS ∷ types.ACCT_DELAY_TIME
    ∷ types.ACCT_INPUT_OCTETS ∷ types.ACCT_OUTPUT_OCTETS
    ∷ types.ACCT_SESSION_TIME ∷ types.ACCT_TERMINATE_CAUSE
    ∷ types.ACCT_INPUT_GIGAWORDS ∷ types.ACCT_OUTPUT_GIGAWORDS ∷ []

-- one of them has not four octets
abbrev pub has_bad_number : Attributes → Bool
has_bad_number attributes = list_any (λ kind. is_none (number_at kind attributes)) number_types

-- what is wrong with a report's attributes
abbrev pub report_fault : Attributes → Option EntryError
report_fault attributes =
    if is_none (value_of types.ACCT_SESSION_ID attributes) then Some NoSessionId
    else if has_bad_number attributes then Some BadField
    else if nat_le (2 ^ 63) (input_of attributes + output_of attributes) then Some TotalTooLarge
    else None

-- what is wrong with attributes of this status value; of a restart nothing else is read
abbrev pub status_fault : Attributes → Option ℕ → Option EntryError
status_fault attributes None = Some UnknownStatus
status_fault attributes (Some status) =
    if is_restart status then None
    else if is_none (kind_of status) then Some UnknownStatus
    else report_fault attributes

-- the first refusal that holds
abbrev pub refusal_of : Attributes → Option EntryError
refusal_of attributes =
    if is_none (value_of types.ACCT_STATUS_TYPE attributes) then Some NoStatus
    else status_fault attributes (status_of attributes)

-- The report of a kind that the attributes of a client's packet spell, received at a moment.
abbrev pub report_of : List ℕ → Attributes → ℕ → ReportKind → ReportFacts
report_of name attributes moment reported = record {
  client = name;
  session = octets_at types.ACCT_SESSION_ID attributes;
  user = octets_at types.USER_NAME attributes;
  class = octets_at types.CLASS attributes;
  kind = reported;
  input = input_of attributes;
  output = output_of attributes;
  seconds = count_at types.ACCT_SESSION_TIME attributes;
  when = moment - count_at types.ACCT_DELAY_TIME attributes;
  cause = count_at types.ACCT_TERMINATE_CAUSE attributes;
  calling = octets_at types.CALLING_STATION_ID attributes;
  framed = value_of types.FRAMED_IP_ADDRESS attributes;
}

-- the entry that the attributes spell
abbrev pub IsEntryOf : List ℕ → Attributes → ℕ → Entry → Type 0
IsEntryOf name attributes moment (entry.Report report) =
    (status : ℕ) × (kind : ReportKind) × (status_of attributes ≡ Some status)
    × (kind_of status ≡ Some kind) × (report ≡ report_of name attributes moment kind)
IsEntryOf name attributes moment (entry.Restart restart) =
    (status : ℕ) × (status_of attributes ≡ Some status) × IsTrue (is_restart status)
    × (restart.client ≡ name)
IsEntryOf name attributes moment (entry.TopUp topup) = ⊥

-- an error is the first refusal, or out of memory if none holds
abbrev pub RefusesEntry : Option EntryError → EntryError → Type 0
RefusesEntry refusal NoStatus = refusal ≡ Some NoStatus
RefusesEntry refusal UnknownStatus = refusal ≡ Some UnknownStatus
RefusesEntry refusal NoSessionId = refusal ≡ Some NoSessionId
RefusesEntry refusal BadField = refusal ≡ Some BadField
RefusesEntry refusal TotalTooLarge = refusal ≡ Some TotalTooLarge
RefusesEntry refusal Memory = refusal ≡ None
