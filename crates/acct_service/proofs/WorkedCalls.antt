-- Worked rows of `calls_of`: a reply after the next event belongs to no visit.
use Rattle.std.proofs.Common.{◌≡◌, ◌≢◌, ℕ, Bool, List, [], ◌∷◌, ◌++◌, ap, sym, ◌∙◌}
use Rattle.std.specs.List.{flat_map}
use Rattle.acct_service.specs.declared.event.Event.{Event}
use Rattle.acct_service.specs.declared.exchange.Asked.{Asked}
use Rattle.acct_service.specs.declared.exchange.Call.{Call}
use Rattle.acct_service.specs.declared.exchange.Call.TheVariants as call
use Rattle.acct_service.specs.Machine.{Answer, replied, dropped, mute, Visit}
use Rattle.acct_service.specs.Told.{reply_asked}
use Rattle.acct_service.specs.Serving.{calls_of, told_answer}

-- calls never begin with a reply
begins_with_event : (visits : List Visit) (reply : Asked) (more : List Call)
    → flat_map calls_of visits ≡ call.Asked reply ∷ more → ⊥
begins_with_event [] reply more is = cc
begins_with_event (visit ∷ visits) reply more is = cc

-- the calls of a visit with this answer, and of those after it
abbrev calls_from : Event → Answer → Bool → List Visit → List Call
calls_from event answer is_taken visits =
    call.Gave event ∷ (told_answer event answer is_taken ++ flat_map calls_of visits)

module _ (first second : Event) (differ : first ≢ second) (octets : List ℕ) (was_taken : Bool) where
  abbrev late : Call
  late = call.Asked (reply_asked first octets was_taken)

  second_then_late : (event : Event) (answer : Answer) (is_taken : Bool) (visits : List Visit)
      → calls_from event answer is_taken visits ≡ call.Gave second ∷ late ∷ [] → ⊥
  second_then_late event (replied sent) is_taken visits is =
      let came : event ≡ second = cc in
      let reply : reply_asked event sent is_taken ≡ reply_asked first octets was_taken = cc in
      differ (sym (ap (λ (r : Asked). r.event) reply) ∙ came)
  second_then_late event (dropped reason) is_taken visits is = cc
  second_then_late event mute is_taken visits is =
      begins_with_event visits (reply_asked first octets was_taken) [] (cc)

  after_first : (visits : List Visit)
      → flat_map calls_of visits ≡ call.Gave second ∷ late ∷ [] → ⊥
  after_first [] is = cc
  after_first (visit ∷ visits) is =
      second_then_late visit.event visit.answer visit.is_taken visits is

  both_then_late : (event : Event) (answer : Answer) (is_taken : Bool) (visits : List Visit)
      → calls_from event answer is_taken visits
      ≡ call.Gave first ∷ call.Gave second ∷ late ∷ [] → ⊥
  both_then_late event (replied sent) is_taken visits is = cc
  both_then_late event (dropped reason) is_taken visits is = cc
  both_then_late event mute is_taken visits is = after_first visits (cc)

  -- an event was returned, then another, and only then was a reply to the first requested
  pub late_is_refused : (visits : List Visit)
      → flat_map calls_of visits ≡ call.Gave first ∷ call.Gave second ∷ late ∷ [] → ⊥
  late_is_refused [] is = cc
  late_is_refused (visit ∷ visits) is =
      both_then_late visit.event visit.answer visit.is_taken visits is
