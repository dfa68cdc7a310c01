-- The place of the first that passes a test, and how many pass it.
use Rattle.std.proofs.Common.{◌≡◌, ◌<◌, ◌≤◌, ◌+◌, ◌||◌, ℕ, suc, Bool, true, false, cond, List, []}
use Rattle.std.proofs.Common.{◌∷◌}
use Rattle.std.proofs.Common.{◌-◌, Some, None, not, length, refl, arith, drop, rules, take}
use Rattle.std.specs.List.{count_by, list_any, position, position_or_len}
use Rattle.std.specs.Prelude.{slice_index_or, slice_set}
use Rattle.std.proofs.lemmas.Bool.{ltb-false}
use Rattle.std.proofs.lemmas.List.{get_or-drop, length-drop}
use Rattle.std.proofs.Math.Seq.{take-length}
use Rattle.std.proofs.lemmas.List.Quantifiers.{position-Some}
use Rattle.std.proofs.lemmas.List.Sums.{sum_by-set}

module _ {X : Type 0} (p : X → Bool) where
  one : (xs : List X) (b : Bool) → suc (length xs) ≤ cond (not b) (1 + position_or_len p xs) 0
      → (length xs ≤ position_or_len p xs → list_any p xs ≡ false) → (b || list_any p xs) ≡ false
  one xs true h rest = absurd (omega arith)
  one xs false h rest = rest (omega arith)

  passed : (xs : List X) → length xs ≤ position_or_len p xs → list_any p xs ≡ false
  passed [] h = refl
  passed (x ∷ xs) h = one xs (p x) h (passed xs)

  under : (b : Bool) (n : ℕ) → cond b (Some n) None ≡ None → b ≡ false
  under true n h = absurd (cc h)
  under false n h = refl

  -- if none is the first, none passes
  pub none_passes : (xs : List X) → position p xs ≡ None → list_any p xs ≡ false
  none_passes xs h =
      passed xs (ltb-false (position_or_len p xs) (length xs) (under _ (position_or_len p xs) h))

  -- the first from a place on is one of all
  pub from_place : (xs : List X) (n i : ℕ) → position p (drop n xs) ≡ Some i
      → (i < length (drop n xs)) × ((d : X) → p (slice_index_or xs (n + i) d) ≡ true)
  from_place xs n i h = (
    search rules,
    λ d. rw (← get_or-drop n xs i d) (position-Some p (drop n xs) i d h).1,
  )

  -- one passes less
  pub fewer : (xs : List X) (i : ℕ) (y d : X) → i < length xs
      → p (slice_index_or xs i d) ≡ true → p y ≡ false
      → count_by p (slice_set xs i y) < count_by p xs
  fewer xs i y d within was now =
      let one_less = sum_by-set (λ x. cond (p x) 1 0) xs i y d within in
      omega (arith, rw (was, now) at one_less)

  -- what is left of a list from a place on
  pub rest : (xs : List X) (n : ℕ) → take (length xs - n) (drop n xs) ≡ drop n xs
  rest xs n = rw (← length-drop n xs) (take-length (drop n xs))
