-- The places so far keep another pair, or none.
use Rattle.std.proofs.Common.{◌<◌, ℕ}
use Rattle.acct_program_commands.specs.Drops.{KeepsPair}
use Rattle.acct_program_commands.specs.declared.drop_log.Pair.{Pair}
use Rattle.acct_program_commands.proofs.drop_log.DropLog.find.Given as goal

abbrev pub invariant-loop-place : goal.invariant-loop-place
invariant-loop-place l = (k : ℕ) (pair : Pair) → k < l.place
    → KeepsPair l.kept-items l.source l.reason k pair → ⊥
