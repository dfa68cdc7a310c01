-- What a watch logs of a drop.
use Rattle.std.specs.Prelude.{◌≡◌, ℕ, List, [], Option}
use Rattle.std.specs.Io.KnownBytes.{Appends}
use Rattle.acct_wire.specs.declared.reason.Reason.{Reason}
use Rattle.acct_service.specs.declared.event.What.{What}
use Rattle.acct_service.specs.declared.event.What.TheVariants.{Datagram, Desk}
use Rattle.acct_program_commands.specs.Drops.{Log}
use Rattle.acct_program_commands.specs.Told.{WritesDrop}

-- A dropped datagram is logged if it is due; nothing else is ever dropped.
abbrev pub TellsOf : What → Reason → ℕ → Log → Log → Option (List ℕ) → Option (List ℕ) → Type 0
TellsOf (Datagram source port bytes) reason moment old new before after =
    (more : Option ℕ) × WritesDrop old new source port reason moment before after more
TellsOf (Desk bytes) reason moment old new before after =
    (new ≡ old) × Appends before after []
