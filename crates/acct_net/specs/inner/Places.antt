-- The places of callers: whose request is there, and who is answered.
use Rattle.std.specs.Prelude.{◌≡◌, ◌⊎◌, ◌≤◌, ⊤, ℕ, Bool, true, false, List, Option, Some, None}
use Rattle.std.specs.Prelude.{◌<◌, length, slice_get, slice_index_or, slice_set}
use Rattle.std.specs.List.{HoldsAt}
use Rattle.std.specs.Time.{instant_nanos}
use Rattle.std.specs.declared.time.Instant.{Instant}
use Rattle.acct_service.specs.declared.event.What.{What}
use Rattle.acct_service.specs.declared.event.What.TheVariants as what
use Rattle.acct_net.specs.declared.desk.Served.{Served}
use Rattle.acct_net.specs.declared.desk.Served.TheVariants as served
use Rattle.acct_net.specs.declared.desk.Unanswered.{Unanswered}
use Rattle.acct_net.specs.declared.desk.Unanswered.TheVariants as awaits
use Rattle.acct_net_callers.specs.declared.caller.Caller.{Caller}
use Rattle.acct_net_callers.specs.declared.caller.Stage.TheVariants as stage
use Rattle.acct_net_callers.specs.declared.caller.Step.TheVariants as step
use Rattle.acct_net_callers.specs.Progress.{Writes, Proceeds}
use Rattle.acct_net_callers.specs.Timeouts.{HasTimedOut, MayBeDropped}
use Rattle.acct_net_callers.specs.Timeouts.{seconds_from, milliseconds_from}

-- it is one of the two, and the other one was not before it
abbrev pub IsEarlier : (ℕ × Instant) → (ℕ × Instant) → (ℕ × Instant) → Type 0
IsEarlier one other is =
    ((is ≡ one) × (instant_nanos one.1 ≤ instant_nanos other.1))
    ⊎ ((is ≡ other) × (instant_nanos other.1 ≤ instant_nanos one.1))

-- If an event was a request at the desk, its response could not be sent, or the clock could not be
-- read.
abbrev pub HasFailed : Option Instant → Unanswered → What → Type 0
HasFailed time unanswered (what.Datagram source port octets) = ⊤
HasFailed time unanswered (what.Desk request) = (time ≡ None) ⊎ (unanswered ≡ awaits.Failed)

module _ {S : Type 0} where
  -- the caller who has this place
  abbrev pub IsAt : List (Option (Caller S)) → ℕ → Caller S → Type 0
  IsAt places place caller = slice_get places place ≡ Some (Some caller)

  -- a caller has this place
  abbrev pub HasCaller : List (Option (Caller S)) → ℕ → Type 0
  HasCaller places place = (caller : Caller S) × IsAt places place caller

  -- the caller who has this place is ready
  abbrev pub IsReadyAt : List (Option (Caller S)) → ℕ → Type 0
  IsReadyAt places place =
      (caller : Caller S) × IsAt places place caller × (caller.is_ready ≡ true)

  -- a caller is ready
  abbrev pub HasReady : List (Option (Caller S)) → Type 0
  HasReady places = (place : ℕ) × IsReadyAt places place

  -- a caller is unanswered: the one who has this place. It sent this request, and awaits its
  -- response.
  abbrev pub IsWaiting : Unanswered → List (Option (Caller S)) → List ℕ → Type 0
  IsWaiting (awaits.At place) places request =
      (caller : Caller S) × IsAt places place caller × (caller.stage ≡ stage.Waiting request)
  IsWaiting awaits.Nobody places request = ⊥
  IsWaiting awaits.Failed places request = ⊥

  -- A request that a step of the callers came to is of the unanswered caller. If there was none, the
  -- same one is unanswered as before.
  abbrev pub IsServed : Unanswered → Unanswered → List (Option (Caller S)) → Served → Type 0
  IsServed old new places served.Nobody = new ≡ old
  IsServed old new places served.Pending = new ≡ old
  IsServed old new places (served.Request request) = IsWaiting new places request

  -- If an event is a request at the desk, the unanswered caller sent it. If it is a datagram, no
  -- caller is unanswered.
  abbrev pub IsOfUnanswered : Unanswered → List (Option (Caller S)) → What → Type 0
  IsOfUnanswered unanswered places (what.Datagram source port octets) =
      unanswered ≡ awaits.Nobody
  IsOfUnanswered unanswered places (what.Desk request) = IsWaiting unanswered places request

  -- The response was written to the unanswered caller, but for what is left of it. Every other
  -- place is as before.
  pub record Answers (held : S → Option (List ℕ)) (unanswered : Unanswered)
      (old new : List (Option (Caller S))) (response : List ℕ) : Type 0 where
    pub place : ℕ
    pub has_place : unanswered ≡ awaits.At place
    pub before : Caller S
    pub was : IsAt old place before
    pub after : Caller S
    pub others : new ≡ slice_set old place (Some after)
    pub writes : Writes (held before.stream) (held after.stream) response after.stage

  -- the caller who has this place, if one has it, is ready, and every other place is as before
  abbrev pub IsWoken : Option (Option (Caller S)) → ℕ → List (Option (Caller S))
      → List (Option (Caller S)) → Type 0
  IsWoken (Some (Some caller)) place old new =
      new ≡ slice_set old place (Some (record caller { is_ready = true }))
  IsWoken (Some None) place old new = new ≡ slice_set old place None
  IsWoken None place old new = new ≡ old

  -- This request was read of the unanswered caller, by one step from how he was before. Every other
  -- place is as before.
  pub record HasReceived (left held : S → Option (List ℕ)) (unanswered : Unanswered)
      (old new : List (Option (Caller S))) (request : List ℕ) : Type 0 where
    pub place : ℕ
    pub has_place : unanswered ≡ awaits.At place
    pub before : Caller S
    pub was : IsAt old place before
    pub after : Caller S
    pub others : new ≡ slice_set old place (Some after)
    pub proceeds : Proceeds (left before.stream) (left after.stream)
        (held before.stream) (held after.stream) before.stage after.stage (step.Received request)

  -- what came of the desk is answered to the unanswered caller, and to nobody else
  abbrev pub IsAnswered : (S → Option (List ℕ)) → What → Unanswered → List (Option (Caller S))
      → List (Option (Caller S)) → List ℕ → Type 0
  IsAnswered held (what.Datagram source port octets) unanswered old new response = new ≡ old
  IsAnswered held (what.Desk request) unanswered old new response =
      Answers held unanswered old new response

  -- the connection of the unanswered caller, if there is one, is closed. Every other place is as
  -- before.
  abbrev pub IsClosed : Unanswered → List (Option (Caller S)) → List (Option (Caller S)) → Type 0
  IsClosed (awaits.At place) old new = new ≡ slice_set old place None
  IsClosed awaits.Nobody old new = new ≡ old
  IsClosed awaits.Failed old new = new ≡ old

  -- whether a caller has this place who is ready, as far as is known
  abbrev pub has_ready : Option (Caller S) → Bool
  has_ready (Some caller) = caller.is_ready
  has_ready None = false

  -- a caller has this place whose time is up
  abbrev pub IsLate : Instant → Option (Caller S) → Type 0
  IsLate now (Some caller) = HasTimedOut caller.stage (seconds_from caller.accepted now)
      (seconds_from caller.last_active now)
  IsLate now None = ⊥

  -- a caller has this place who may be dropped for another one
  abbrev pub IsDroppable : Instant → Option (Caller S) → Type 0
  IsDroppable now (Some caller) = (caller.is_ready ≡ false)
      × MayBeDropped caller.stage (milliseconds_from caller.accepted now)
      (seconds_from caller.last_active now)
  IsDroppable now None = ⊥

  -- when the caller was accepted who has a place
  abbrev pub accepted_at : Option (Caller S) → ℕ
  accepted_at (Some caller) = instant_nanos caller.accepted
  accepted_at None = 0

  -- The caller who has this place is dropped for another one: of those before the end who may be,
  -- he was accepted first.
  pub record IsFirstToDrop (places : List (Option (Caller S))) (now : Instant) (end place : ℕ)
      : Type 0 where
    pub within : place < length places
    pub droppable : HoldsAt (IsDroppable now) places place
    pub first : (other : ℕ) (d e : Option (Caller S)) → other < end
        → IsDroppable now (slice_index_or places other d)
        → accepted_at (slice_index_or places place e) ≤ accepted_at (slice_index_or places other d)

  -- nobody before the end may be dropped for another one
  abbrev pub HasNoneToDrop : List (Option (Caller S)) → Instant → ℕ → Type 0
  HasNoneToDrop places now end = (other : ℕ) (d : Option (Caller S)) → other < end
      → ¬ IsDroppable now (slice_index_or places other d)

  -- nobody has this place, or a caller whose response is written
  abbrev pub IsPaid : Option (Option (Caller S)) → Type 0
  IsPaid None = ⊤
  IsPaid (Some None) = ⊤
  IsPaid (Some (Some caller)) = caller.stage ≡ stage.Closing

  abbrev pub IsPaidAt : List (Option (Caller S)) → ℕ → Type 0
  IsPaidAt places place = IsPaid (slice_get places place)

  -- at most this place has changed
  abbrev pub ChangesOnly : ℕ → List (Option (Caller S)) → List (Option (Caller S)) → Type 0
  ChangesOnly place old new =
      (new ≡ old) ⊎ ((slot : Option (Caller S)) × (new ≡ slice_set old place slot))
