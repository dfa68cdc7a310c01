use Rattle.std.proofs.Common.{ℕ, ◌<◌, ◌≤◌, take}
use Rattle.acct_desk.specs.inner.Reading.{EndsInEmptyLine}
use Rattle.acct_desk.proofs.request_reader.has_head_end.Given as goal

abbrev pub invariant-loop-end : goal.invariant-loop-end
invariant-loop-end l =
    (k : ℕ) → l.before < k → k ≤ l.end → ¬ (EndsInEmptyLine (take k l.bytes))
