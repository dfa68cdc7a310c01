-- The sockets so far are bound at the addresses so far, and a datagram may wait at each.
use Rattle.std.proofs.Common.{◌≡◌, true, take}
use Rattle.std.specs.List.{All}
use Rattle.acct_net.specs.Bound.{AreBoundAt}
use Rattle.acct_net.proofs.datagrams.Datagrams.bind.Given as goal

abbrev pub invariant-loop-address : goal.invariant-loop-address
invariant-loop-address g l = AreBoundAt (take l.address-index l.addresses) l.port l.sockets.items
    × All (λ socket. socket.may_receive ≡ true) l.sockets.items
