-- The sockets for datagrams.
use Rattle.std.specs.Prelude.{◌≡◌, ◌≢◌, ◌<◌, ◌⊎◌, ⊤, ℕ, Bool, false, true, List, None, Some, Ok}
use Rattle.std.specs.Prelude.{IsErr, IsSome, MatchOption, Result, length, slice_get, slice_index_or}
use Rattle.std.specs.Prelude.{slice_set, take}
use Rattle.std.specs.Net.Socket.{v4_ip, v4_port}
use Rattle.std.specs.Net.Addr.{ipv4_octets}
use Rattle.std.specs.declared.net.socket_addr.SocketAddrV4.{SocketAddrV4}
use Rattle.acct_service.specs.declared.event.What.{What}
use Rattle.acct_service.specs.declared.exchange.Fault.{Fault}
use Rattle.acct_service.specs.declared.event.What.TheVariants as what
use Rattle.acct_net.specs.declared.datagrams.RadiusSocket.{RadiusSocket}
use Rattle.acct_net.specs.inner.Sent.{WasSent}

-- a datagram may wait at the socket with this place, as far as is known
abbrev pub MayReceiveAt : List RadiusSocket → ℕ → Type 0
MayReceiveAt sockets place = (place < length sockets)
    × ((d : RadiusSocket) → (slice_index_or sockets place d).may_receive ≡ true)

-- the last receive of the socket with this place gave a datagram of this size and from there, to
-- which it has sent no reply
abbrev pub HasReceived : List RadiusSocket → ℕ → (ℕ × SocketAddrV4) → Type 0
HasReceived sockets place datagram =
    (socket : RadiusSocket) × (slice_get sockets place ≡ Some socket)
    × (socket.received ≡ Ok (Some datagram)) × (socket.sent ≡ None)

-- the last receive of the socket with this place failed
abbrev pub HasFault : List RadiusSocket → ℕ → Type 0
HasFault sockets place =
    (socket : RadiusSocket) × (slice_get sockets place ≡ Some socket) × IsErr socket.received

-- The last receive of the socket with this place failed, or gave a datagram. So if there is no event,
-- it failed, or there was no memory for the datagram.
abbrev pub IsLost : List RadiusSocket → ℕ → Type 0
IsLost sockets place =
    (socket : RadiusSocket) × (slice_get sockets place ≡ Some socket)
    × (socket.received ≢ Ok None)

-- A turn failed: its wait did, or it was about callers, and datagrams are first in the next one, or
-- what was received is lost.
abbrev pub IsFault : Bool → Bool → List RadiusSocket → ℕ → Type 0
IsFault has_failed are_callers_first sockets place =
    (has_failed ≡ true) ⊎ ((are_callers_first ≡ false) ⊎ IsLost sockets place)

-- If an event is a datagram, the socket with this place received it last: its source and its port
-- are those that the system gave, and its octets are so many at the front of the buffer.
abbrev pub IsReceived : List RadiusSocket → ℕ → List ℕ → What → Type 0
IsReceived sockets place buffer (what.Datagram source port octets) =
    (size : ℕ) × (from : SocketAddrV4) × HasReceived sockets place (size, from)
    × (source ≡ ipv4_octets (v4_ip from)) × (port ≡ v4_port from) × (octets ≡ take size buffer)
IsReceived sockets place buffer (what.Desk request) = ⊤

-- the socket with this place, if there is one, is woken, and every other one is as before
abbrev pub IsWokenAt : ℕ → List RadiusSocket → List RadiusSocket → Type 0
IsWokenAt place old new = MatchOption (slice_get old place) (new ≡ old)
    (λ socket. new ≡ slice_set old place (record socket { may_receive = true }))

-- the last datagram that the socket with this place sent has these octets and went there
abbrev pub HasSent : List RadiusSocket → ℕ → List ℕ → SocketAddrV4 → Type 0
HasSent sockets place octets to =
    (socket : RadiusSocket) × (slice_get sockets place ≡ Some socket)
    × (socket.sent ≡ Some (Ok (length octets), to)) × WasSent octets to (Ok (length octets))

-- The socket with this place was to send these octets there. The system took another size of them,
-- or failed.
abbrev pub HasNotSent : List RadiusSocket → ℕ → List ℕ → SocketAddrV4 → Type 0
HasNotSent sockets place octets to =
    (socket : RadiusSocket) × (slice_get sockets place ≡ Some socket)
    × ((outcome : Result ℕ Fault) × (socket.sent ≡ Some (outcome, to))
    × (outcome ≢ Ok (length octets)) × WasSent octets to outcome)

-- If these octets are a reply to a datagram, the socket with this place sent them to whom it came
-- from.
abbrev pub IsSent : List RadiusSocket → ℕ → List ℕ → What → Type 0
IsSent sockets place bytes (what.Datagram source port octets) =
    (to : SocketAddrV4) × HasSent sockets place bytes to
    × (source ≡ ipv4_octets (v4_ip to)) × (port ≡ v4_port to)
IsSent sockets place bytes (what.Desk request) = ⊤

-- If these octets were to be a reply to a datagram, the socket with this place tried to send them to
-- whom it came from, and the system did not take them all.
abbrev pub IsUnsent : List RadiusSocket → List RadiusSocket → ℕ → List ℕ → What → Type 0
IsUnsent old new place bytes (what.Datagram source port octets) = IsSome (slice_get old place)
    → (to : SocketAddrV4) × HasNotSent new place bytes to
    × (source ≡ ipv4_octets (v4_ip to)) × (port ≡ v4_port to)
IsUnsent old new place bytes (what.Desk request) = ⊤
