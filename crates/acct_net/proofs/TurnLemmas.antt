-- Whose turn it is, after the one whose turn it was has changed.
use Rattle.std.proofs.Common.{◌≡◌, ◌∙◌, ◌<◌, ◌≤◌, ◌+◌, ◌-◌, ℕ, zero, suc, Bool, true, false, cond}
use Rattle.std.proofs.Common.{List, [], ◌∷◌, Option, Some, None, not, length, drop, refl, sym, ap}
use Rattle.std.proofs.Common.{add-one, arith, ⊎_elim, subst}
use Rattle.std.specs.List.{position, position_or_len}
use Rattle.std.specs.Prelude.{nat_lt, slice_index_or, slice_set}
use Rattle.std.proofs.lemmas.Bool.{cases_lt, lt-ltb, le-ltb, ltb-true, ltb-false}
use Rattle.std.proofs.lemmas.List.{drop-set-add, drop-set-lt, length-set, length-drop, get_or-drop}
use Rattle.std.proofs.lemmas.List.{drop-drop}
use Rattle.std.proofs.lemmas.List.Folds.{position_or_len-set}
use Rattle.acct_net.specs.inner.Turns.{found_from, in_turn}

-- what is at a place, if that is below a length
abbrev if_below : ℕ → ℕ → Option ℕ
if_below place end = cond (nat_lt place end) (Some place) None

below : (place end : ℕ) → place < end → if_below place end ≡ Some place
below place end within = rw (lt-ltb place end within) refl

above : (place end : ℕ) → end ≤ place → if_below place end ≡ None
above place end beyond = rw (le-ltb place end beyond) refl

is_below : (b : Bool) (place other : ℕ) → cond b (Some place) None ≡ Some other
    → (b ≡ true) × (place ≡ other)
is_below true place other is = (refl, cc is)
is_below false place other is = absurd (cc is)

is_above : (b : Bool) (place : ℕ) → cond b (Some place) None ≡ None → b ≡ false
is_above true place is = absurd (cc is)
is_above false place is = refl

-- to look from a place on is to look from an earlier one on, at places that are as much greater
shifted : (place end from more : ℕ) (first : Option ℕ)
    → found_from (from + more) (if_below place end) first
    ≡ found_from from (if_below (more + place) (more + end)) first
shifted place end from more first = ⊎_elim
    (λ lt. rw (below place end lt, below (more + place) (more + end) (omega arith))
    (ap Some (omega arith)))
    (λ le. rw (above place end le, above (more + place) (more + end) (omega arith)) refl)
    (cases_lt place end)

same_first : (found : Option ℕ) → found_from 0 found found ≡ found
same_first None = refl
same_first (Some place) = ap Some (omega arith)

module _ {X : Type 0} (p : X → Bool) where
  -- if the one at a place passes as before, the first is the same
  same_position : (xs : List X) (i : ℕ) (y d : X) → p y ≡ p (slice_index_or xs i d)
      → position p (slice_set xs i y) ≡ position p xs
  same_position xs i y d same =
      rw (length-set xs i y, position_or_len-set p xs i y d same) refl

  same_after : (xs : List X) (n i : ℕ) (y d : X) → p y ≡ p (slice_index_or xs i d) → n ≤ i
      → position p (drop n (slice_set xs i y)) ≡ position p (drop n xs)
  same_after xs n i y d same le =
      let e : i ≡ n + (i - n) = omega arith in
      subst (λ k. position p (drop n (slice_set xs k y)) ≡ position p (drop n xs)) (sym e)
      (rw (drop-set-add n xs (i - n) y)
      (same_position (drop n xs) (i - n) y d
      (same ∙ ap (λ k. p (slice_index_or xs k d)) e ∙ ap p (sym (get_or-drop n xs (i - n) d)))))

  -- if the one at a place passes as before, it is the same one's turn
  pub same_turn : (xs : List X) (n i : ℕ) (y d : X) → p y ≡ p (slice_index_or xs i d)
      → in_turn p (slice_set xs i y) n ≡ in_turn p xs n
  same_turn xs n i y d same = ⊎_elim
      (λ (lt : i < n). rw (drop-set-lt n xs i y lt, same_position xs i y d same) refl)
      (λ (le : n ≤ i). rw (same_after xs n i y d same le, same_position xs i y d same) refl)
      (cases_lt i n)

  -- the first from a place on
  skip : (xs : List X) (n : ℕ) → n ≤ position_or_len p xs
      → n + position_or_len p (drop n xs) ≡ position_or_len p xs
  skip xs zero le = omega arith
  skip [] (suc n) le = absurd (omega arith)
  skip (x ∷ xs) (suc n) le = skipped (p x) xs n le (skip xs n)
    where
      skipped : (b : Bool) (xs : List X) (n : ℕ)
          → suc n ≤ cond (not b) (1 + position_or_len p xs) 0
          → (n ≤ position_or_len p xs → n + position_or_len p (drop n xs) ≡ position_or_len p xs)
          → suc n + position_or_len p (drop n xs) ≡ cond (not b) (1 + position_or_len p xs) 0
      skipped true xs n le rest = absurd (omega arith)
      skipped false xs n le rest = let e = rest (omega arith) in omega arith

  module _ (y : X) (fails : p y ≡ false) where
    -- the first after one that passes no more
    after : (xs : List X) (i : ℕ) → position_or_len p xs ≡ i → i < length xs
        → position_or_len p (slice_set xs i y) ≡ (i + 1) + position_or_len p (drop (i + 1) xs)
    after [] i is within = absurd (omega arith)
    after (x ∷ xs) zero is within = rw fails (omega arith)
    after (x ∷ xs) (suc i) is within =
        rw (add-one (suc i)) (later_one (p x) xs i is (λ e. after xs i e (omega arith)))
      where
        later_one : (b : Bool) (xs : List X) (i : ℕ)
            → cond (not b) (1 + position_or_len p xs) 0 ≡ suc i
            → (position_or_len p xs ≡ i → position_or_len p (slice_set xs i y)
            ≡ (i + 1) + position_or_len p (drop (i + 1) xs))
            → cond (not b) (1 + position_or_len p (slice_set xs i y)) 0
            ≡ suc (suc i) + position_or_len p (drop (suc i) xs)
        later_one true xs i is rest = absurd (omega arith)
        later_one false xs i is rest =
            let e = rw add-one at (rest (omega arith)) in omega arith

    rest_of : (xs : List X) (i : ℕ) → position p xs ≡ Some i
        → position p (slice_set xs i y)
        ≡ if_below (i + 1 + position_or_len p (drop (i + 1) xs)) (i + 1 + length (drop (i + 1) xs))
    rest_of xs i is =
        let at = is_below (nat_lt (position_or_len p xs) (length xs)) (position_or_len p xs) i is in
        let lt = ltb-true (position_or_len p xs) (length xs) at.0 in
        rw (length-set xs i y, after xs i at.1 (omega arith), length-drop (i + 1) xs)
        (ap (λ end. if_below (i + 1 + position_or_len p (drop (i + 1) xs)) end) (omega arith))

    -- what is behind a place from an earlier one on
    behind : (xs : List X) (n i : ℕ) → drop (n + i + 1) (slice_set xs (n + i) y)
        ≡ drop (i + 1) (drop n xs)
    behind xs n i = drop-set-lt (n + i + 1) xs (n + i) y (omega arith)
        ∙ ap (λ k. drop k xs) (omega arith) ∙ sym (drop-drop (i + 1) n xs)

    -- it was found from a place on
    turned_here : (xs : List X) (n i : ℕ) → position p (drop n xs) ≡ Some i
        → in_turn p (slice_set xs (n + i) y) (n + i + 1) ≡ in_turn p (slice_set xs (n + i) y) n
    turned_here xs n i there =
        let ys = slice_set xs (n + i) y in
        let left = drop (i + 1) (drop n xs) in
        ap (λ list. found_from (n + i + 1) (position p list) (position p ys)) (behind xs n i)
        ∙ ap (λ k. found_from k (position p left) (position p ys)) (omega arith)
        ∙ shifted (position_or_len p left) (length left) n (i + 1) (position p ys)
        ∙ ap (λ found. found_from n found (position p ys)) (sym (rest_of (drop n xs) i there)
        ∙ ap (position p) (sym (drop-set-add n xs i y)))

    -- it was the first of all, and none is from a place on
    is_before : (xs : List X) (n i : ℕ) → position p (drop n xs) ≡ None → position p xs ≡ Some i
        → i < n
    is_before xs n i none is =
        let at = is_below (nat_lt (position_or_len p xs) (length xs)) (position_or_len p xs) i is in
        let lt = ltb-true (position_or_len p xs) (length xs) at.0 in
        let past = ltb-false (position_or_len p (drop n xs)) (length (drop n xs))
        (is_above (nat_lt (position_or_len p (drop n xs)) (length (drop n xs)))
        (position_or_len p (drop n xs)) none) in
        ⊎_elim (λ (below : i < n). below) (λ (le : n ≤ i).
        let same = skip xs n (omega arith) in
        omega (arith, length-drop n xs)) (cases_lt i n)

    turned_over : (xs : List X) (n i : ℕ) → position p (drop n xs) ≡ None
        → position p xs ≡ Some i
        → in_turn p (slice_set xs i y) (i + 1) ≡ in_turn p (slice_set xs i y) n
    turned_over xs n i none is =
        let ys = slice_set xs i y in
        let left = drop (i + 1) xs in
        ap (λ list. found_from (i + 1) (position p list) (position p ys))
        (drop-set-lt (i + 1) xs i y (omega arith))
        ∙ ap (λ k. found_from k (position p left) (position p ys)) (omega arith)
        ∙ shifted (position_or_len p left) (length left) 0 (i + 1) (position p ys)
        ∙ ap (λ found. found_from 0 found (position p ys)) (sym (rest_of xs i is))
        ∙ same_first (position p ys)
        ∙ sym (ap (λ found. found_from n found (position p ys))
        (ap (position p) (drop-set-lt n xs i y (is_before xs n i none is)) ∙ none))

    turned : (xs : List X) (n i : ℕ) (found : Option ℕ) → position p (drop n xs) ≡ found
        → found_from n found (position p xs) ≡ Some i
        → in_turn p (slice_set xs i y) (i + 1) ≡ in_turn p (slice_set xs i y) n
    turned xs n i (Some j) there is =
        subst (λ k. in_turn p (slice_set xs k y) (k + 1) ≡ in_turn p (slice_set xs k y) n)
        (cc is) (turned_here xs n j there)
    turned xs n i None there is = turned_over xs n i there is

    -- if the one whose turn it was passes no more, the next one's turn is as from there on
    pub later : (xs : List X) (n i : ℕ) → in_turn p xs n ≡ Some i
        → in_turn p (slice_set xs i y) (i + 1) ≡ in_turn p (slice_set xs i y) n
    later xs n i is = turned xs n i (position p (drop n xs)) refl is
