-- A sum over the distinct elements of a list depends on which elements there are, and not on their
-- order or number.
use Rattle.std.proofs.Common.{◌≡◌, ◌≢◌, ℕ, ◌+◌, ◌≤◌, Bool, true, false, cond, List, [], ◌∷◌, refl}
use Rattle.std.proofs.Common.{sym, ap, arith}
use Rattle.std.proofs.lemmas.List.Sums.{sum_by-cons}
use Rattle.std.specs.Prelude.{Contains}
use Rattle.std.specs.Bool.{Decides}
use Rattle.std.specs.List.{list_any, sum_by}
use Rattle.acct_model.specs.History.{distinct}
use Rattle.acct_model.proofs.Distinct.{sum_by-distinct-more}
use Rattle.acct_model.proofs.Same.{Decides-false}
use Rattle.acct_model.proofs.Lists.{here, deeper, some_same}

module _ {K : Type 0} (same : K → K → Bool) (decides : (a b : K) → Decides (same a b) (a ≡ b)) where
  -- the same weights, but nothing for s
  but : (K → ℕ) → K → K → ℕ
  but f s k = cond (same s k) 0 (f k)

  -- what s adds to a sum: its weight if it is in the list
  sum_but : (f : K → ℕ) (s : K) (ks : List K)
      → sum_by (but f s) (distinct same ks) + cond (list_any (same s) ks) (f s) 0
      ≡ sum_by f (distinct same ks)
  unfolding but
  sum_but f s ks =
      let itself : but f s s ≡ 0 = ap (λ b. cond b 0 (f s)) ((decides s s).1 refl) in
      let other : (k : K) → k ≢ s
      → but f s k ≡ f k = λ k differs.
      ap (λ b. cond b 0 (f k))
      (Decides-false (same s k) (decides s k) (λ is. differs (sym is))) in
      let more = sum_by-distinct-more same decides f (but f s) s other ks in
      elim (list_any (same s) ks) as (λ b.
      sum_by (but f s) (cond b (distinct same ks) (s ∷ distinct same ks)) + cond b (f s) 0
      ≡ sum_by f (distinct same ks) + but f s s
      → sum_by (but f s) (distinct same ks) + cond b (f s) 0 ≡ sum_by f (distinct same ks)) [
        | true ↦ λ h. omega (arith, h, itself)
        | false ↦ λ h. omega (arith, h, itself, sum_by-cons (but f s) s (distinct same ks))
      ] more

  -- more elements, no smaller sum
  sum_of_more : (f : K → ℕ) (xs ys : List K) → ((k : K) → Contains xs k → Contains ys k)
      → sum_by f (distinct same xs) ≤ sum_by f (distinct same ys)
  sum_of_more f [] ys more = omega arith
  sum_of_more f (x ∷ xs) ys more =
      elim (list_any (same x) xs) as (λ b. list_any (same x) xs ≡ b
      → sum_by f (cond b (distinct same xs) (x ∷ distinct same xs))
      ≤ sum_by f (distinct same ys)) [
        | true ↦ λ e. sum_of_more f xs ys (λ k h. more k (deeper x k xs h))
        | false ↦ λ e.
            let rest = sum_of_more (but f x) xs ys (λ k h. more k (deeper x k xs h)) in
            let there = some_same same x x ys (more x (here x xs)) ((decides x x).1 refl) in
            let left = sum_but f x xs in
            let right = sum_but f x ys in
            let not_left = ap (λ b. cond b (f x) 0) e in
            let is_right = ap (λ b. cond b (f x) 0) there in
            omega (arith, rest, left, right, not_left, is_right, sum_by-cons f x (distinct same xs))
      ] refl

  -- the same elements, one sum
  pub sum_of_same : (f : K → ℕ) (xs ys : List K) → ((k : K) → Contains xs k → Contains ys k)
      → ((k : K) → Contains ys k → Contains xs k)
      → sum_by f (distinct same xs) ≡ sum_by f (distinct same ys)
  sum_of_same f xs ys to from = omega (arith, sum_of_more f xs ys to, sum_of_more f ys xs from)
