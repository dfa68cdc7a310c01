-- The lines that a server prints while it runs.
use Rattle.std.specs.Prelude.{ℕ, List, Option, Some, None, [], ◌∷◌, ◌++◌, ◌==◌, if◌then◌else◌}
use Rattle.std.specs.Prelude.{codes, decimal}
use Rattle.std.specs.Io.KnownBytes.{Appends}
use Rattle.std.specs.Net.Text.{ipv4_text}
use Rattle.acct_wire.specs.Reasons.{reason_number, reason_name}
use Rattle.acct_wire.specs.declared.reason.Reason.{Reason}
use Rattle.acct_program_commands.specs.Drops.{Log, KeepsBack, TellsDrop}
use Rattle.acct_program_commands.specs.declared.told.ToldDrop.{ToldDrop}
use Rattle.acct_program_commands.specs.declared.tally.Tally.{Tally}

-- `, N more`, if there are any
abbrev pub more_text : ℕ → List ℕ
more_text more = if more == 0 then [] else codes ", " ++ decimal more ++ codes " more"

-- `drop NUMBER NAME from A.B.C.D:PORT`
abbrev pub told_drop_text : ToldDrop → List ℕ
told_drop_text drop =
    codes "drop " ++ decimal (reason_number drop.reason) ++ codes " " ++ reason_name drop.reason
    ++ codes " from " ++ ipv4_text drop.source ++ codes ":" ++ decimal drop.port
    ++ more_text drop.more

-- `minute: events E, replies R, drops D, mute M, faults F`
abbrev pub minute_text : Tally → List ℕ
minute_text tally =
    codes "minute: events " ++ decimal tally.events ++ codes ", replies "
    ++ decimal tally.replies ++ codes ", drops " ++ decimal tally.drops ++ codes ", mute "
    ++ decimal tally.mute ++ codes ", faults " ++ decimal tally.faults

-- A drop at a moment is logged, and nothing else, if it is due. Else nothing is.
abbrev pub WritesDrop : Log → Log → List ℕ → ℕ → Reason → ℕ → Option (List ℕ) → Option (List ℕ)
    → Option ℕ → Type 0
WritesDrop old new source port reason moment before after None =
    KeepsBack old new source reason moment × Appends before after []
WritesDrop old new source port reason moment before after (Some more) =
    TellsDrop old new source reason moment more
    × Appends before after (told_drop_text (record {
      reason = reason;
      source = source;
      port = port;
      more = more;
    }) ++ 10 ∷ [])
