-- What a server receives, counted call by call of its exchange.
use Rattle.std.specs.Prelude.{◌+◌, ◌-◌, ◌^◌, ℕ, min, Bool, true, false, Option, Some, None, Result}
use Rattle.std.specs.Prelude.{Ok, Err, List, slice_set, if◌then◌else◌, not}
use Rattle.acct_wire.specs.declared.reason.Reason.{Reason}
use Rattle.acct_wire.specs.Reasons.{reason_place, count_for}
use Rattle.acct_service.specs.declared.event.Event.{Event}
use Rattle.acct_service.specs.declared.event.What.{What}
use Rattle.acct_service.specs.declared.event.What.TheVariants.{Datagram, Desk}
use Rattle.acct_service.specs.declared.exchange.Fault.{Fault}
use Rattle.acct_program_commands.specs.declared.tally.Arrivals.{Arrivals}
use Rattle.acct_program_commands.specs.declared.tally.Tally.{Tally}

-- nothing yet
abbrev pub no_tally : Tally
no_tally = record { events = 0; replies = 0; drops = 0; mute = 0; faults = 0 }

-- one more, up to 2^64 - 1
abbrev pub plus_one : ℕ → ℕ
plus_one count = min (count + 1) (2 ^ 64 - 1)

-- with an event, if there is one that got no answer before the next turn
abbrev pub with_mute : Bool → Tally → Tally
with_mute is_unanswered tally =
    if is_unanswered then record tally { mute = plus_one tally.mute } else tally

-- with a turn or a reply that failed
abbrev pub with_fault : Tally → Tally
with_fault tally = record tally { faults = plus_one tally.faults }

-- with what a turn received
abbrev pub with_came : Result (Option Event) Fault → Tally → Tally
with_came (Ok (Some event)) tally = record tally { events = plus_one tally.events }
with_came (Ok None) tally = tally
with_came (Err fault) tally = with_fault tally

-- when the last event was received, after a turn that received this
abbrev pub last_event : Result (Option Event) Fault → ℕ → ℕ
last_event (Ok (Some event)) last = event.moment
last_event (Ok None) last = last
last_event (Err fault) last = last

abbrev pub is_datagram : What → Bool
is_datagram (Datagram source port bytes) = true
is_datagram (Desk bytes) = false

-- a turn received an event, which must be answered
abbrev pub is_event : Result (Option Event) Fault → Bool
is_event (Ok (Some event)) = true
is_event (Ok None) = false
is_event (Err fault) = false

-- a turn received a datagram
abbrev pub has_datagram : Result (Option Event) Fault → Bool
has_datagram (Ok (Some event)) = is_datagram event.what
has_datagram (Ok None) = false
has_datagram (Err fault) = false

-- a turn received a request at the desk
abbrev pub is_request : Result (Option Event) Fault → Bool
is_request (Ok (Some event)) = not (is_datagram event.what)
is_request (Ok None) = false
is_request (Err fault) = false

-- what was received of one kind, after this turn: how many, and when the last one was
abbrev pub with_arrival : Bool → Result (Option Event) Fault → Arrivals → Arrivals
with_arrival is_one came arrivals =
    if is_one then record { count = plus_one arrivals.count; last_at = last_event came arrivals.last_at }
    else arrivals

-- The reports that were accepted, with an answer to this event. A datagram is answered exactly if it
-- is a report that was accepted: it is in the book, or was there before.
abbrev pub with_report : What → ℕ → ℕ
with_report (Datagram source port bytes) reports = plus_one reports
with_report (Desk bytes) reports = reports

-- with a requested reply, which was taken or not
abbrev pub with_reply : Bool → Tally → Tally
with_reply is_taken tally =
    if is_taken then record tally { replies = plus_one tally.replies } else with_fault tally

-- with a drop
abbrev pub with_drop : Tally → Tally
with_drop tally = record tally { drops = plus_one tally.drops }

-- with a drop for a reason
abbrev pub with_drop_for : Reason → List ℕ → List ℕ
with_drop_for reason dropped =
    slice_set dropped (reason_place reason) (plus_one (count_for dropped reason))
