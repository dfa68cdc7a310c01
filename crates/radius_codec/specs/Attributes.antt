-- Attributes: a type and a value each (RFC 2865, section 5).
use Rattle.std.specs.Prelude.{◌≡◌, ◌==◌, ℕ, zero, suc, ◌+◌, ◌-◌, ◌≤◌, Option, None, Some, List, []}
use Rattle.std.specs.Prelude.{◌∷◌, length, take, drop, map, if◌then◌else◌}
use Rattle.std.specs.Borrow.{Bor}
use Rattle.std.specs.List.{flat_map, AllByRecursion}
use Rattle.byteorder.specs.Endian.{big_number}

-- The octets of one attribute: its type, its Length, which counts type, Length and value, and its
-- value (RFC 2865, section 5).
abbrev pub spelling : ℕ × List ℕ → List ℕ
spelling attribute = attribute.0 ∷ (length attribute.1 + 2) ∷ attribute.1

-- The octets of a list of attributes, one after the other.
abbrev pub spellings : List (ℕ × List ℕ) → List ℕ
spellings attributes = flat_map spelling attributes

-- The attribute's Length fits into its one octet (RFC 2865, section 5).
abbrev pub IsShort : ℕ × List ℕ → Type 0
IsShort attribute = length attribute.1 ≤ 253

-- Each attribute's Length fits into its one octet.
abbrev pub AreShort : List (ℕ × List ℕ) → Type 0
AreShort attributes = AllByRecursion IsShort attributes

-- The octets are these attributes and nothing else.
pub record Spells (octets : List ℕ) (attributes : List (ℕ × List ℕ)) : Type 0 where
  pub short : AreShort attributes
  pub joined : octets ≡ spellings attributes

-- The attributes fit into one packet: 4,076 octets after the first twenty (RFC 2865, section 3).
pub record Fits (attributes : List (ℕ × List ℕ)) : Type 0 where
  pub short : AreShort attributes
  pub few : length (spellings attributes) ≤ 4076

-- The value of the first attribute of a type.
abbrev pub value_of : ℕ → List (ℕ × List ℕ) → Option (List ℕ)
value_of kind [] = None
value_of kind (attribute ∷ rest) =
    if attribute.0 == kind then Some attribute.1 else value_of kind rest

-- The number that four octets spell, high octet first (RFC 2865, section 5).
abbrev pub word : List ℕ → Option ℕ
word value = if length value == 4 then Some (big_number 4 value) else None

-- A slice of types and borrowed values, as the attributes that it names.
abbrev pub pairs : List (ℕ × Bor (List ℕ)) → List (ℕ × List ℕ)
pairs attributes = map (λ attribute. (attribute.0, attribute.1.now)) attributes

-- ---- How an `Attributes` sees its octets. Nobody has to believe what follows: `read` ensures of
-- ---- what is seen that the datagram spells it.

-- At most n attributes, taken off the front of the octets one by one.
unfoldable pub attributes_within : ℕ → List ℕ → List (ℕ × List ℕ)
attributes_within zero octets = []
attributes_within (suc n) [] = []
attributes_within (suc n) (kind ∷ []) = []
attributes_within (suc n) (kind ∷ size ∷ rest) =
    (kind, take (size - 2) rest) ∷ attributes_within n (drop (size - 2) rest)

-- The attributes that octets spell.
abbrev pub attributes_in : List ℕ → List (ℕ × List ℕ)
attributes_in octets = attributes_within (length octets) octets

-- What an `Attributes` keeps: its octets are the attributes seen in them, and fit into a packet.
pub record AreAttributes (octets : List ℕ) : Type 0 where
  pub spelled : Spells octets (attributes_in octets)
  pub few : length octets ≤ 4076
