-- The counts of a server, as they are printed.
use Rattle.std.specs.Prelude.{ℕ, List, ◌++◌, codes, decimal}
use Rattle.acct_program_serving.specs.declared.counts.Counts.{Counts}
use Rattle.acct_program_serving.specs.declared.counts.Drops.{Drops}

-- `events E, replies R, mute M, faults F`
abbrev pub counts_text : Counts → List ℕ
counts_text counts =
    codes "events " ++ decimal counts.events ++ codes ", replies " ++ decimal counts.replies
    ++ codes ", mute " ++ decimal counts.mute ++ codes ", faults " ++ decimal counts.faults

-- `dropped N: COUNT`
abbrev pub drops_text : Drops → List ℕ
drops_text drops =
    codes "dropped " ++ decimal drops.reason ++ codes ": " ++ decimal drops.count
