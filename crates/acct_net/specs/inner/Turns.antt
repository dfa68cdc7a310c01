-- Who is next, if each has a turn.
use Rattle.std.specs.Prelude.{◌+◌, ℕ, Bool, true, false, List, Option, Some, None, drop}
use Rattle.std.specs.List.{position}
use Rattle.acct_service.specs.declared.event.What.{What}
use Rattle.acct_service.specs.declared.event.What.TheVariants as what

-- what was found from a place on, or else what is the first of all
abbrev pub found_from : ℕ → Option ℕ → Option ℕ → Option ℕ
found_from from (Some place) first = Some (from + place)
found_from from None first = first

-- the first that passes a test from a place on, or else the first of all
abbrev pub in_turn : {X : Type 0} → (X → Bool) → List X → ℕ → Option ℕ
in_turn passes list from =
    found_from from (position passes (drop from list)) (position passes list)

-- what was received is a request at the desk
abbrev pub is_request : What → Bool
is_request (what.Datagram source port octets) = false
is_request (what.Desk request) = true
