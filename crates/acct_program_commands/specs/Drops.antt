-- Which drops are logged while a server runs. A log has 256 places, each free or with a source and
-- a reason of which a drop was logged.
use Rattle.std.specs.Prelude.{◌≡◌, ◌≤◌, ◌<◌, ◌^◌, ◌-◌, ◌+◌, ◌⊎◌, ℕ, min, List, Option, Some, None}
use Rattle.std.specs.Prelude.{slice_index_or, slice_set}
use Rattle.acct_wire.specs.declared.reason.Reason.{Reason}
use Rattle.acct_program_commands.specs.declared.drop_log.Pair.{Pair}

abbrev pub Log : Type 0
Log = List (Option Pair)

-- how many seconds two moments are apart: `-` stops at 0, so one of the two terms is 0
abbrev pub apart : ℕ → ℕ → ℕ
apart a b = (a - b) + (b - a)

-- for how many seconds nothing was logged at a place, whichever way the clock went: 2^64 - 1 if it
-- is free
abbrev pub quiet_for : ℕ → Option Pair → ℕ
quiet_for moment None = 2 ^ 64 - 1
quiet_for moment (Some pair) = apart moment pair.told_at

-- one more drop of a pair was suppressed
abbrev pub one_more : Pair → Pair
one_more pair = record pair { more = min (pair.more + 1) (2 ^ 64 - 1) }

-- a drop of a pair was logged at a moment
abbrev pub told : Pair → ℕ → Pair
told pair moment = record pair { told_at = moment; more = 0 }

-- the pair of a source and a reason is at this place
abbrev pub KeepsPair : Log → List ℕ → Reason → ℕ → Pair → Type 0
KeepsPair log source reason place pair =
    (slice_index_or log place None ≡ Some pair) × (pair.source ≡ source) × (pair.reason ≡ reason)

-- it is at no place
abbrev pub KeepsNone : Log → List ℕ → Reason → Type 0
KeepsNone log source reason = (place : ℕ) (pair : Pair) → KeepsPair log source reason place pair → ⊥

-- The pair at this place was logged ten seconds ago or longer. Now it is logged again, with the
-- number of those that were suppressed. The other places do not change.
abbrev pub TellsAgain : Log → Log → ℕ → Pair → ℕ → ℕ → Type 0
TellsAgain old new place pair moment more =
    (10 ≤ apart moment pair.told_at) × (more ≡ pair.more)
    × (new ≡ slice_set old place (Some (told pair moment)))

-- It was logged less than ten seconds ago: it is counted, and the other places do not change.
abbrev pub KeepsBackAgain : Log → Log → ℕ → Pair → ℕ → Type 0
KeepsBackAgain old new place pair moment =
    (apart moment pair.told_at < 10) × (new ≡ slice_set old place (Some (one_more pair)))

-- A pair at no place takes the place at which nothing was logged for the longest time, ten seconds
-- at least, and is logged. The other places do not change.
abbrev pub TellsFirst : Log → Log → List ℕ → Reason → ℕ → ℕ → Type 0
TellsFirst old new source reason moment more =
    (more ≡ 0) × ((place : ℕ) × (place < 256)
    × (10 ≤ quiet_for moment (slice_index_or old place None))
    × ((k : ℕ) → k < 256 → quiet_for moment (slice_index_or old k None)
    ≤ quiet_for moment (slice_index_or old place None))
    × (new ≡ slice_set old place
    (Some (record { source = source; reason = reason; told_at = moment; more = 0 }))))

-- at each place a drop was logged less than ten seconds ago, and no place changes
abbrev pub HasNoRoom : Log → Log → ℕ → Type 0
HasNoRoom old new moment =
    ((k : ℕ) → k < 256 → quiet_for moment (slice_index_or old k None) < 10) × (new ≡ old)

-- A drop is logged, with the number of those of its pair that were suppressed since the last one.
abbrev pub TellsDrop : Log → Log → List ℕ → Reason → ℕ → ℕ → Type 0
TellsDrop old new source reason moment more =
    ((place : ℕ) × (pair : Pair) × KeepsPair old source reason place pair
    × TellsAgain old new place pair moment more)
    ⊎ (KeepsNone old source reason × TellsFirst old new source reason moment more)

-- A drop is suppressed.
abbrev pub KeepsBack : Log → Log → List ℕ → Reason → ℕ → Type 0
KeepsBack old new source reason moment =
    ((place : ℕ) × (pair : Pair) × KeepsPair old source reason place pair
    × KeepsBackAgain old new place pair moment)
    ⊎ (KeepsNone old source reason × HasNoRoom old new moment)
