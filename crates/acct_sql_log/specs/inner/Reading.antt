-- How far a reader has read.
use Rattle.std.specs.Prelude.{◌≡◌, ◌≤◌, ℕ, List, length, drop, Option, Some}

-- a reader of known octets has read so many of them
abbrev pub IsReadTo : List ℕ → ℕ → Option (List ℕ) → Type 0
IsReadTo octets at left = (at ≤ length octets) × (left ≡ Some (drop at octets))
