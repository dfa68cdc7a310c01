-- What a watch counts until it prints it: the counts of a minute.
use Rattle.std.specs.Prelude.{◌≡◌, ◌≤◌, ◌⊎◌, ℕ, Bool, false, Option, Some, None, Result, Ok, Err}
use Rattle.std.specs.Prelude.{⊤}
use Rattle.acct_service.specs.declared.event.Event.{Event}
use Rattle.acct_service.specs.declared.exchange.Fault.{Fault}
use Rattle.acct_program_commands.specs.Drops.{apart}
use Rattle.acct_program_commands.specs.Tally.{no_tally, with_mute, with_came, is_event, with_reply}
use Rattle.acct_program_commands.specs.Tally.{with_drop}
use Rattle.acct_program_commands.specs.declared.tally.Tally.{Tally}
use Rattle.acct_program_commands.specs.declared.watching.Watch.{Watch}

-- Something was counted, in a minute that is over, whichever way the clock went.
abbrev pub IsOver : Tally → ℕ → ℕ → Type 0
IsOver tally began_at moment = ¬ (tally ≡ no_tally) × (60 ≤ apart moment began_at)

-- A minute begins with the first turn after one is over, or after nothing was counted.
abbrev pub Begins : Tally → ℕ → ℕ → Type 0
Begins tally began_at moment = (tally ≡ no_tally) ⊎ IsOver tally began_at moment

-- the moment of a turn that received an event is that of the event
abbrev pub IsMomentOf : Result (Option Event) Fault → ℕ → Type 0
IsMomentOf (Ok (Some event)) moment = moment ≡ event.moment
IsMomentOf (Ok None) moment = ⊤
IsMomentOf (Err fault) moment = ⊤

module _ {W : Type 0} where
  -- What a turn received is counted. Before it the counts of a minute that is over are set aside:
  -- they were printed.
  pub record CountsMinute (came : Result (Option Event) Fault) (moment : ℕ) (old new : Watch W)
      : Type 0 where
    pub log : new.log ≡ old.log
    pub waits : new.meter.is_unanswered ≡ is_event came
    pub over : IsOver (with_mute old.meter.is_unanswered old.meter.tally) old.began_at moment
        → new.meter.tally ≡ with_came came no_tally
    pub goes_on : ¬ IsOver (with_mute old.meter.is_unanswered old.meter.tally) old.began_at moment
        → new.meter.tally ≡ with_came came (with_mute old.meter.is_unanswered old.meter.tally)

  -- a watch, if there is one, counts what a turn at a moment received
  abbrev pub WatchesTurn : Result (Option Event) Fault → ℕ → Option (Watch W) → Option (Watch W)
      → Type 0
  WatchesTurn came moment None new = new ≡ None
  WatchesTurn came moment (Some old) None = ⊥
  WatchesTurn came moment (Some old) (Some new) = CountsMinute came moment old new

  -- it counts a reply, which was taken or not
  abbrev pub WatchesReply : Bool → Option (Watch W) → Option (Watch W) → Type 0
  WatchesReply is_taken None new = new ≡ None
  WatchesReply is_taken (Some old) None = ⊥
  WatchesReply is_taken (Some old) (Some new) =
      (new.meter.tally ≡ with_reply is_taken old.meter.tally) × (new.meter.is_unanswered ≡ false)

  -- it counts a drop
  abbrev pub WatchesDrop : Option (Watch W) → Option (Watch W) → Type 0
  WatchesDrop None new = new ≡ None
  WatchesDrop (Some old) None = ⊥
  WatchesDrop (Some old) (Some new) =
      (new.meter.tally ≡ with_drop old.meter.tally) × (new.meter.is_unanswered ≡ false)
