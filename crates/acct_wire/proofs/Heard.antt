-- What attributes spell as they are heard.
use Rattle.std.proofs.Common.{◌≡◌, ℕ, ◌+◌, List, [], ◌∷◌, ◌++◌, refl, sym, ◌∙◌, ap, subst, true, false}
use Rattle.std.proofs.Common.{cond, Bool, arith}
use Rattle.std.proofs.lemmas.Bool.Decides.{nat_tests}
use Rattle.std.specs.Prelude.{Option, Some, None, unwrap_or, is_none, nat_le, ◌^◌}
use Rattle.radius_codec.specs.Attributes.{value_of}
use Rattle.radius_codec.specs.declared.attribute_types.TheConstants as types
use Rattle.acct_model.specs.declared.entry.Entry.{Entry}
use Rattle.acct_model.specs.declared.entry.Entry.TheVariants as entry
use Rattle.acct_model.specs.declared.entry_reader.EntryError.{EntryError}
use Rattle.acct_model.specs.declared.entry_reader.EntryError.TheVariants.{NoStatus, UnknownStatus}
use Rattle.acct_model.specs.declared.entry_reader.EntryError.TheVariants.{NoSessionId, BadField}
use Rattle.acct_model.specs.declared.entry_reader.EntryError.TheVariants.{TotalTooLarge}
use Rattle.acct_model.specs.declared.report.ReportKind.{ReportKind}
use Rattle.acct_model.specs.declared.stamp.Stamp.{Stamp}
use Rattle.acct_model.specs.declared.stamp.StampSecrets.{StampSecrets}
use Rattle.acct_model.specs.Report.{ReportFacts}
use Rattle.acct_model.specs.Entries.{Attributes, status_of, kind_of, is_restart, report_of, IsEntryOf}
use Rattle.acct_model.specs.Entries.{count_at, octets_at, refusal_of, report_fault, status_fault}
use Rattle.acct_model.specs.Entries.{has_bad_number, input_of, output_of}
use Rattle.acct_wire.specs.declared.hearing.StampedClient.{StampedClient}
use Rattle.acct_wire.specs.declared.hearing.Stamping.{Stamping}
use Rattle.acct_wire.specs.Hearing.{stamped_called, heard_as, heard_from, heard, session_heard}
use Rattle.acct_wire.specs.Hearing.{first_stamp, billed, told_of, teller}
use Rattle.acct_wire.specs.inner.Hearing.{report_heard, entry_heard, entry_from, entry_in}

-- the attributes with a session's id that may be absent
abbrev with_id : Stamp → Attributes → Option (List ℕ) → Attributes
with_id stamp attributes id =
    (types.USER_NAME, stamp.name) ∷ (types.CLASS, stamp.plan)
    ∷ (session_heard stamp id ++ attributes)

-- ---- what stays

status_with : (stamp : Stamp) (attributes : Attributes) (id : Option (List ℕ))
    → status_of (with_id stamp attributes id) ≡ status_of attributes
status_with stamp attributes None = refl
status_with stamp attributes (Some id) = refl

status_same : (stamp : Stamp) (attributes : Attributes)
    → status_of (heard_as stamp attributes) ≡ status_of attributes
status_same stamp attributes =
    status_with stamp attributes (value_of types.ACCT_SESSION_ID attributes)

delay_with : (stamp : Stamp) (attributes : Attributes) (id : Option (List ℕ))
    → count_at types.ACCT_DELAY_TIME (with_id stamp attributes id)
    ≡ count_at types.ACCT_DELAY_TIME attributes
delay_with stamp attributes None = refl
delay_with stamp attributes (Some id) = refl

delay_from : (secrets : StampSecrets) (found : Option StampedClient) (attributes : Attributes)
    → count_at types.ACCT_DELAY_TIME (heard_from secrets found attributes)
    ≡ count_at types.ACCT_DELAY_TIME attributes
delay_from secrets None attributes = refl
delay_from secrets (Some client) attributes =
    delay_with (billed client attributes (first_stamp secrets attributes)) attributes
    (value_of types.ACCT_SESSION_ID attributes)

-- how long a report waited is heard as it is
pub delay_heard : (stamping : Option Stamping) (name : List ℕ) (attributes : Attributes)
    → count_at types.ACCT_DELAY_TIME (heard stamping name attributes)
    ≡ count_at types.ACCT_DELAY_TIME attributes
delay_heard None name attributes = refl
delay_heard (Some stamping) name attributes =
    delay_from stamping.secrets (stamped_called name (Some stamping)) attributes

-- ---- an entry as it is heard

report_with : (name client : List ℕ) (attributes : Attributes) (moment : ℕ) (kind : ReportKind)
    (stamp : Stamp) (id : List ℕ) → octets_at types.ACCT_SESSION_ID attributes ≡ id
    → report_heard client stamp (report_of name attributes moment kind)
    ≡ report_of client (with_id stamp attributes (Some id)) moment kind
report_with name client attributes moment kind stamp id is =
    ap (λ x. report_of client (with_id stamp attributes (Some x)) moment kind) is

-- a session's id that is there
id_there : (found : Option (List ℕ)) → is_none found ≡ false
    → found ≡ Some (unwrap_or found [])
id_there None e = absurd (let clash : true ≡ false = e in cc)
id_there (Some id) e = refl

report_so : (name client : List ℕ) (attributes : Attributes) (moment : ℕ) (kind : ReportKind)
    (stamp : Stamp) → is_none (value_of types.ACCT_SESSION_ID attributes) ≡ false
    → report_heard client stamp (report_of name attributes moment kind)
    ≡ report_of client (heard_as stamp attributes) moment kind
report_so name client attributes moment kind stamp there =
    report_with name client attributes moment kind stamp
    (octets_at types.ACCT_SESSION_ID attributes) refl
    ∙ ap (λ id. report_of client (with_id stamp attributes id) moment kind)
    (sym (id_there (value_of types.ACCT_SESSION_ID attributes) there))

no_fault : (e : EntryError) → Some e ≡ None → ⊥
no_fault e h = cc

if_none : {X : Type 0} (b : Bool) (x : X) (rest : Option X) → cond b (Some x) rest ≡ None
    → (b ≡ false) × (rest ≡ None)
if_none true x rest e = absurd (let clash : Some x ≡ None = e in cc)
if_none false x rest e = (refl, e)

no_restart : (status : ℕ) (kind : ReportKind) → kind_of status ≡ Some kind
    → is_restart status ≡ false
no_restart status kind is = grind (arith, nat_tests)

-- faultless attributes of a report have a session's id
has_id : (attributes : Attributes) (status : ℕ) (kind : ReportKind)
    → refusal_of attributes ≡ None → status_of attributes ≡ Some status
    → kind_of status ≡ Some kind → is_none (value_of types.ACCT_SESSION_ID attributes) ≡ false
has_id attributes status kind none is of_kind =
    let of_status = (if_none (is_none (value_of types.ACCT_STATUS_TYPE attributes)) NoStatus
    (status_fault attributes (status_of attributes)) none).1 in
    let here = subst (λ o. status_fault attributes o ≡ None) is of_status in
    let rest = cond (is_none (kind_of status)) (Some UnknownStatus) (report_fault attributes) in
    let goes_on : rest ≡ None =
    ap (λ b. cond b None rest) (sym (no_restart status kind of_kind)) ∙ here in
    let of_report = (if_none (is_none (kind_of status)) UnknownStatus (report_fault attributes)
    goes_on).1 in
    (if_none (is_none (value_of types.ACCT_SESSION_ID attributes)) NoSessionId
    (cond (has_bad_number attributes) (Some BadField)
    (cond (nat_le (2 ^ 63) (input_of attributes + output_of attributes)) (Some TotalTooLarge) None))
    of_report).0

heard_entry : (name client : List ℕ) (attributes : Attributes) (moment : ℕ) (asked : Entry)
    (stamp : Stamp) → refusal_of attributes ≡ None → IsEntryOf name attributes moment asked
    → IsEntryOf client (heard_as stamp attributes) moment (entry_heard client stamp asked)
heard_entry name client attributes moment (entry.Report r) stamp none (status, kind, is, of_kind, e) = (
  status,
  kind,
  status_same stamp attributes ∙ is,
  of_kind,
  ap (report_heard client stamp) e ∙ report_so name client attributes moment kind stamp
      (has_id attributes status kind none is of_kind),
)
heard_entry name client attributes moment (entry.Restart r) stamp none (status, is, restarts, e) =
    (status, status_same stamp attributes ∙ is, restarts, refl)
heard_entry name client attributes moment (entry.TopUp t) stamp none spelled = absurd spelled

from_entry : (secrets : StampSecrets) (name : List ℕ) (attributes : Attributes) (moment : ℕ)
    (asked : Entry) (found : Option StampedClient) → refusal_of attributes ≡ None
    → IsEntryOf name attributes moment asked
    → IsEntryOf (told_of name attributes found) (heard_from secrets found attributes) moment
    (entry_from secrets name attributes asked found)
from_entry secrets name attributes moment asked None none spelled = spelled
from_entry secrets name attributes moment asked (Some client) none spelled =
    heard_entry name (told_of name attributes (Some client)) attributes moment asked
    (billed client attributes (first_stamp secrets attributes)) none spelled

-- what the attributes spell is heard as the attributes that are heard spell it
pub heard_so : (stamping : Option Stamping) (name : List ℕ) (attributes : Attributes) (moment : ℕ)
    (asked : Entry) → refusal_of attributes ≡ None → IsEntryOf name attributes moment asked
    → IsEntryOf (teller stamping name attributes) (heard stamping name attributes) moment
    (entry_in stamping name attributes asked)
heard_so None name attributes moment asked none spelled = spelled
heard_so (Some stamping) name attributes moment asked none spelled =
    from_entry stamping.secrets name attributes moment asked (stamped_called name (Some stamping))
    none spelled
