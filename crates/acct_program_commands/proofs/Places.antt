-- The places of a log of drops.
use Rattle.std.proofs.Common.{◌≡◌, ◌<◌, ℕ, zero, suc, length, [], ◌∷◌, Some, None}
use Rattle.std.proofs.Common.{slice_index_or, arith}
use Rattle.acct_program_commands.specs.Drops.{Log}
use Rattle.acct_program_commands.specs.declared.drop_log.Pair.{Pair}

-- a pair that is kept is at one of the places
pub kept_within : (log : Log) (k : ℕ) (pair : Pair) → slice_index_or log k None ≡ Some pair
    → k < length log
kept_within [] k pair is = absurd (cc is)
kept_within (place ∷ log) zero pair is = omega arith
kept_within (place ∷ log) (suc k) pair is =
    let inside = kept_within log k pair is in omega (arith, inside)
