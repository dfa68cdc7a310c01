-- None of the places so far has been quiet for longer.
use Rattle.std.proofs.Common.{◌<◌, ◌≤◌, ℕ, None, slice_index_or}
use Rattle.acct_program_commands.specs.Drops.{quiet_for}
use Rattle.acct_program_commands.proofs.drop_log.DropLog.quietest.Given as goal

abbrev pub invariant-loop-place : goal.invariant-loop-place
invariant-loop-place l =
    (l.quietest < 256)
    × ((k : ℕ) → k < l.place → quiet_for l.moment (slice_index_or l.self-inside.places k None)
    ≤ quiet_for l.moment (slice_index_or l.self-inside.places l.quietest None))
