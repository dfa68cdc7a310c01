use Rattle.acct_model.proofs.Walked.{Walked}
use Rattle.acct_model.proofs.stamp.are_same.Given as goal

-- while they are the same, all octets so far are equal; once they aren't, the two differ
abbrev pub invariant-loop-i : goal.invariant-loop-i
invariant-loop-i l = Walked l.same l.one l.other l.i
