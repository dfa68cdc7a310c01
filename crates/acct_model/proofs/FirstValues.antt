-- First values found in one walk.
use Rattle.std.proofs.Common.{◌≡◌, ℕ, ◌<◌, Option, None, List, length, replicate, get_or, ◌∙◌, ap}
use Rattle.std.proofs.lemmas.List.{get_or-replicate}
use Rattle.std.specs.Option.{option_map, option_or}
use Rattle.std.specs.Borrow.{Bor}
use Rattle.radius_codec.specs.Attributes.{value_of}

-- The first value of each type is at its place, or else is the first of those that are left.
pub record FirstsLeft (values : List (Option (Bor (List ℕ))))
    (left all : List (ℕ × List ℕ)) : Type 0 where
  pub size : length values ≡ 54
  pub each : (kind : ℕ) → kind < 54
      → option_or (option_map (λ value. value.now) (get_or values kind None)) (value_of kind left)
      ≡ value_of kind all

pub FirstsLeft_start : (values : List (Option (Bor (List ℕ)))) (left all : List (ℕ × List ℕ))
    → values ≡ replicate 54 None → left ≡ all → FirstsLeft values left all
FirstsLeft_start values left all none is =
    record {
      size = ap length none;
      each = λ kind within.
          let place = ap (λ vs. get_or vs kind None) none
          ∙ get_or-replicate 54 kind None None within in
          ap (λ found. option_or (option_map (λ value. value.now) found) (value_of kind left)) place
          ∙ ap (value_of kind) is;
    }
