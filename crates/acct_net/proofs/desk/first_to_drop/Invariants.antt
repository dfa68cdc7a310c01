-- Of those before this place, he is the first to be dropped, or none may be.
use Rattle.acct_net.proofs.DropLemmas.{Knows}
use Rattle.acct_net.proofs.desk.first_to_drop.Given as goal

abbrev pub invariant-loop-place : goal.invariant-loop-place
invariant-loop-place g l = Knows l.places l.now l.place l.first
