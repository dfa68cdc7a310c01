-- At which sockets a server is reached.
use Rattle.std.specs.Prelude.{ℕ, List}
use Rattle.std.specs.declared.fd.AsRawFd as fd
use Rattle.std.specs.declared.io.traits.Read as read
use Rattle.std.specs.declared.io.traits.Write as write
use Rattle.acct_net.specs.declared.datagrams.RadiusSocket.{RadiusSocket}
use Rattle.acct_net.specs.declared.sockets.Sockets.{Sockets}

module _ {R S L : Type 0} {r : read.Ghosts S} {w : write.Ghosts S} {s : fd.Ghosts S}
    {l : fd.Ghosts L} where
  -- its sockets for datagrams
  abbrev pub datagrams_of : Sockets R S L r w s l → List RadiusSocket
  datagrams_of sockets = sockets.event_loop.datagrams.sockets.items

  -- the address and the port of its desk
  abbrev pub desk_of : Sockets R S L r w s l → List ℕ × ℕ
  desk_of sockets = (sockets.event_loop.desk.door.address, sockets.event_loop.desk.door.port)
