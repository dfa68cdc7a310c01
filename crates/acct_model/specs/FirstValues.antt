-- The first values of a packet's attributes, by their types.
use Rattle.std.specs.Prelude.{◌≡◌, ℕ, ◌<◌, Option, None, List, slice_index_or}
use Rattle.std.specs.Option.{option_map}
use Rattle.std.specs.Borrow.{Bor}
use Rattle.radius_codec.specs.Attributes.{value_of}

-- What a `FirstValues` keeps: at the place of each type below 54 is the first value of that type,
-- if there is one.
pub record AreFirstValues (values : List (Option (Bor (List ℕ))))
    (attributes : List (ℕ × List ℕ)) : Type 0 where
  pub each : (kind : ℕ) → kind < 54
      → option_map (λ value. value.now) (slice_index_or values kind None) ≡ value_of kind attributes
