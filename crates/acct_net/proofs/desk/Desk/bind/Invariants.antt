-- The places so far are free.
use Rattle.std.proofs.Common.{◌≡◌, None, replicate}
use Rattle.acct_net.proofs.desk.Desk.bind.Given as goal

abbrev pub invariant-loop : goal.invariant-loop
invariant-loop g l = l.places.items ≡ replicate l.counter None
