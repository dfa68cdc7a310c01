-- When a file is rewritten, and what is printed if that fails.
use Rattle.std.specs.Prelude.{◌≤◌, ⊤, ℕ, Bool, true, false, List, [], ◌∷◌, ◌++◌, Option, Some, None}
use Rattle.std.specs.Prelude.{Result, Ok, Err, codes}
use Rattle.std.specs.Io.KnownBytes.{Appends}
use Rattle.acct_program_commands.specs.Drops.{apart}
use Rattle.acct_program_commands.specs.Endings.{fault_text}
use Rattle.acct_program_commands.specs.declared.fault.Fault.{Fault}

-- it was never written, or so many seconds away or more, whichever way the clock went
abbrev pub IsDue : ℕ → Option ℕ → ℕ → Type 0
IsDue pause None moment = ⊤
IsDue pause (Some last) moment = pause ≤ apart moment last

-- `WHAT: FAULT`, if it fails and did not fail before
abbrev pub trouble_line : {T : Type 0} → Bool → List ℕ → Result T Fault → List ℕ
trouble_line was_failing what (Ok done) = []
trouble_line true what (Err fault) = []
trouble_line false what (Err fault) = what ++ codes ": " ++ fault_text fault ++ 10 ∷ []

-- that line is printed, and nothing else
abbrev pub TellsTrouble : {T : Type 0} → Bool → List ℕ → Result T Fault → Option (List ℕ)
    → Option (List ℕ) → Type 0
TellsTrouble was_failing what written before after =
    Appends before after (trouble_line was_failing what written)
