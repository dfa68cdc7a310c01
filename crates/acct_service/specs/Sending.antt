-- What an outbox holds.
use Rattle.std.specs.Prelude.{ℕ, Bool, List, take, Option, None, Some, Vec}
use Rattle.std.specs.Global.{Global}

-- the desk's response, or else the reply at the front of the array
abbrev pub octets_in : List ℕ → ℕ → Option (Vec ℕ Global) → List ℕ
octets_in reply size None = take size reply
octets_in reply size (Some response) = response.items

-- The octets of an answer, and whether a datagram was answered with a reply since the outbox was
-- told to forget that.
pub record Held : Type 0 where
  pub octets : List ℕ
  pub has_answered : Bool

abbrev pub held : List ℕ → ℕ → Option (Vec ℕ Global) → Bool → Held
held reply size response has_answered =
    record { octets = octets_in reply size response; has_answered = has_answered }
