-- Where the sockets of a server are bound.
use Rattle.std.specs.Prelude.{◌≡◌, ℕ, List, map}
use Rattle.std.specs.List.{All}
use Rattle.acct_net.specs.declared.datagrams.Datagrams.{Datagrams}
use Rattle.acct_net.specs.declared.datagrams.RadiusSocket.{RadiusSocket}

-- the sockets for datagrams are bound at these addresses, one at each, in their order, and at this
-- port
abbrev pub AreBoundAt : List (List ℕ) → ℕ → List RadiusSocket → Type 0
AreBoundAt addresses port sockets =
    (map (λ (socket : RadiusSocket). socket.address) sockets ≡ addresses)
    × All (λ (socket : RadiusSocket). socket.port ≡ port) sockets

-- they are bound so, and nothing was received at them
pub record AreUnheardAt (addresses : List (List ℕ)) (port : ℕ) (datagrams : Datagrams) : Type 0
  where
    pub bound : AreBoundAt addresses port datagrams.sockets.items
    pub unheard : datagrams.receives ≡ 0
