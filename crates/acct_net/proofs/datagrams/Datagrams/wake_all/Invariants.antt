use Rattle.std.proofs.Common.{◌≡◌, ◌<◌, ℕ, true}
use Rattle.std.specs.Prelude.{slice_index_or}
use Rattle.acct_net.specs.declared.datagrams.RadiusSocket.{RadiusSocket}
use Rattle.acct_net.proofs.datagrams.Datagrams.wake_all.Given as goal

abbrev pub invariant-loop-socket : goal.invariant-loop-socket
invariant-loop-socket l = (k : ℕ) (d : RadiusSocket) → k < l.socket-index
    → (slice_index_or l.socket-items k d).may_receive ≡ true
