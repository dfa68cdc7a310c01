use Rattle.std.proofs.Common.{◌≡◌, ◌+◌}
use Rattle.std.specs.List.{count_by}
use Rattle.acct_net.specs.inner.Turns.{in_turn}
use Rattle.acct_net.proofs.datagrams.Datagrams.receive.Given as goal

-- This search is counted already. Whose turn it is behind the last one, it is from the first place of
-- this search on.
abbrev pub invariant-loop-place : goal.invariant-loop-place
invariant-loop-place l = (l.self.receives ≡ l.fn.self.receives + 1)
    × (in_turn (λ socket. socket.may_receive) l.self.sockets.items (l.self.last + 1)
    ≡ in_turn (λ socket. socket.may_receive) l.self.sockets.items (l.fn.self.last + 1))

abbrev pub decreases-loop-place : goal.decreases-loop-place
decreases-loop-place l = count_by (λ socket. socket.may_receive) l.self.sockets.items
