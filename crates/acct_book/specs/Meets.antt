-- A walk by a call that gives the next member.
use Rattle.std.specs.Prelude.{List, [], ◌∷◌, Option, Some, None}

module _ {K M : Type 0} (next : Option K → Option M → Type 0) (key_of : M → K) where
  -- from a start these are the next members, one after the other, and there is none after them
  abbrev pub Meets : Option K → List M → Type 0
  Meets after [] = next after None
  Meets after (member ∷ rest) = next after (Some member) × Meets (Some (key_of member)) rest
