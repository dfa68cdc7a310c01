-- What an exchange records of its calls.
use Rattle.std.specs.Prelude.{◌≡◌, ◌+◌, ⊤, ℕ, Bool, List, [], ◌∷◌, ◌++◌, Option, Some, None, Result}
use Rattle.std.specs.Prelude.{Ok, Err, is_ok}
use Rattle.acct_wire.specs.declared.reason.Reason.{Reason}
use Rattle.acct_service.specs.declared.event.Event.{Event}
use Rattle.acct_service.specs.declared.exchange.Fault.{Fault}
use Rattle.acct_service.specs.declared.exchange.Asked.{Asked}
use Rattle.acct_service.specs.declared.exchange.Call.{Call}
use Rattle.acct_service.specs.declared.exchange.Call.TheVariants as call

-- The list of calls grew by these at its end, if it is still recorded. One that was not recorded
-- stays so.
abbrev pub Grows : {C : Type 0} → Option (List C) → List C → Option (List C) → Type 0
Grows old calls None = ⊤
Grows None calls (Some new) = ⊥
Grows (Some old) calls (Some new) = new ≡ old ++ calls

-- the call that returned an event, if there was one
abbrev pub given : Result (Option Event) Fault → List Call
given (Ok (Some event)) = call.Gave event ∷ []
given (Ok None) = []
given (Err fault) = []

-- a requested reply
abbrev pub reply_asked : Event → List ℕ → Bool → Asked
reply_asked event bytes is_taken = record { event = event; bytes = bytes; is_taken = is_taken }

-- the call that was notified of a drop
abbrev pub drop_told : Event → Reason → List Call
drop_told event reason = call.Dropped event reason ∷ []

module _ {T : Type 0} where
  -- the call that was asked to send this reply, which was taken or not
  abbrev pub sent : Event → List ℕ → Result T Fault → List Call
  sent event bytes result = call.Asked (reply_asked event bytes (is_ok result)) ∷ []

  -- a call that fails is counted, and no other
  abbrev pub CountsFault : Result T Fault → ℕ → ℕ → Type 0
  CountsFault (Ok done) old new = new ≡ old
  CountsFault (Err fault) old new = new ≡ old + 1
