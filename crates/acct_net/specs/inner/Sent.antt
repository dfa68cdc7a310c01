-- What was sent. No contract of the system says what leaves: so this is given by one function,
-- which is read by eye, and only its proof unfolds it.
use Rattle.std.specs.Prelude.{⊤, ℕ, List, Result}
use Rattle.std.specs.declared.net.socket_addr.SocketAddrV4.{SocketAddrV4}
use Rattle.acct_service.specs.declared.exchange.Fault.{Fault}

-- These octets and no others were given to the system to be sent there, by `send_waiting`. So many
-- of them it took, or it failed.
unfoldable pub WasSent : List ℕ → SocketAddrV4 → Result ℕ Fault → Type 0
WasSent octets to outcome = ⊤
