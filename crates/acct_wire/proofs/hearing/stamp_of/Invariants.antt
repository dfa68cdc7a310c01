use Rattle.std.proofs.Common.{◌≡◌}
use Rattle.acct_wire.specs.Hearing.{first_stamp}
use Rattle.acct_wire.proofs.hearing.stamp_of.Given as goal

-- the first stamp of those that are left is the first one
abbrev pub invariant-loop-kind : goal.invariant-loop-kind
invariant-loop-kind l =
    (goal.iterator-loop-kind).can_next l.kind-iterator ×
    (goal.iterator-loop-kind).is_finite l.kind-iterator ×
    (first_stamp l.secrets l.kind-iterator ≡ first_stamp l.secrets l.fn.attributes)
