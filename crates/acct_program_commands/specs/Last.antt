-- The last counts of a server: what is printed, and what is written, after its last turn.
use Rattle.std.specs.Prelude.{◌≡◌, ◌++◌, ◌∷◌, [], ℕ, List, Option, Some, None, Result, OnOk, false}
use Rattle.std.specs.Io.KnownBytes.{Appends}
use Rattle.acct_program_commands.specs.Counted.{CountsAs, figures_of, muted}
use Rattle.acct_program_commands.specs.Placed.{PutsFigures}
use Rattle.acct_program_commands.specs.Tally.{no_tally, with_mute}
use Rattle.acct_program_commands.specs.Told.{minute_text}
use Rattle.acct_program_commands.specs.Unwritten.{IsBegun}
use Rattle.acct_program_commands.specs.declared.figures.State.{State}
use Rattle.acct_program_commands.specs.declared.status_file.StatusFile.{StatusFile}
use Rattle.acct_program_commands.specs.declared.watching.Watch.{Watch}

-- The file of counts, if there is one, was written once more, with an event counted that got no
-- answer. If that did not fail, a file with the counts was put at its name.
abbrev pub WritesLast : {R E : Type 0} → (List ℕ → List ℕ → Type 0) → Option (StatusFile R E)
    → Option (StatusFile R E) → Type 0
WritesLast Put None new = new ≡ None
WritesLast Put (Some old) None = ⊥
WritesLast Put (Some old) (Some new) =
    CountsAs muted (Some old) (Some new) × IsBegun false None old.file new.file
    × (new.file.is_failing ≡ false
    → (state : State) × PutsFigures (Put old.file.name) (figures_of (muted old) state))

-- The counts of the last minute, if there are some, were printed, unless that failed.
abbrev pub TellsLast : {W T E : Type 0} → (W → Option (List ℕ)) → Result T E → Option (Watch W)
    → Option (Watch W) → Type 0
TellsLast contents printed None new = new ≡ None
TellsLast contents printed (Some old) None = ⊥
TellsLast contents printed (Some old) (Some new) =
    let tally = with_mute old.meter.is_unanswered old.meter.tally in
    (tally ≡ no_tally → new.writer ≡ old.writer)
    × (¬ (tally ≡ no_tally)
    → OnOk printed (Appends (contents old.writer) (contents new.writer)
    (minute_text tally ++ 10 ∷ [])))
