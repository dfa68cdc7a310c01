-- The lines of an input.
use Rattle.std.specs.Prelude.{◌≡◌, ◌≢◌, ℕ, ◌<◌, ◌⊎◌, Option, None, Some, List, [], ◌∷◌, ◌++◌}
use Rattle.std.specs.Prelude.{length, slice_index}
use Rattle.std.specs.Borrow.{Bor}

-- the first line of octets, which has no octet 10, and what follows the one that ends it
pub record IsCut (octets line rest : List ℕ) : Type 0 where
  pub unbroken : (k : ℕ) → k < length line → slice_index line k ≢ 10
  pub whole : (octets ≡ line ++ 10 ∷ rest) ⊎ ((octets ≡ line) × (rest ≡ []))

-- the next line of octets, if some are left, and the octets that are left then
abbrev pub GivesLine : List ℕ → Option (Bor (List ℕ)) → List ℕ → Type 0
GivesLine octets None rest = (octets ≡ []) × (rest ≡ [])
GivesLine octets (Some line) rest = (octets ≢ []) × IsCut octets line.now rest

-- these are the first lines of octets, and what follows them
abbrev pub AreCut : List ℕ → List (List ℕ) → List ℕ → Type 0
AreCut octets [] rest = octets ≡ rest
AreCut octets (line ∷ lines) rest = (octets ≢ []) × (next : List ℕ) × IsCut octets line next
    × AreCut next lines rest
