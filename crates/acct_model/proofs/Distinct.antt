-- Sums over lists in which each element occurs once.
use Rattle.std.proofs.Common.{◌≡◌, ◌≢◌, ℕ, ◌+◌, ◌≤◌, Bool, true, false, cond, ◌||◌, List, [], ◌∷◌}
use Rattle.std.proofs.Common.{refl, sym, ◌∙◌, subst, arith, true≢false}
use Rattle.std.proofs.lemmas.List.Sums.{sum_by-cons}
use Rattle.std.specs.Bool.{Decides}
use Rattle.std.specs.List.{list_any, sum_by}
use Rattle.acct_model.specs.History.{distinct}

-- the element that changes is in front
changed_here : {K : Type 0} (f g : K → ℕ) (s : K) (ks : List K) (m : Bool)
    → sum_by g ks + cond m (f s) 0 ≡ sum_by f ks + cond m (g s) 0
    → sum_by g (cond m ks (s ∷ ks)) + f s ≡ sum_by f (cond m ks (s ∷ ks)) + g s
changed_here f g s ks true h = h
changed_here f g s ks false h = omega (arith, h, sum_by-cons f s ks, sum_by-cons g s ks)

-- another element is in front
changed_there : {K : Type 0} (f g : K → ℕ) (k : K) (ks : List K) (m : Bool) (c d : ℕ)
    → g k ≡ f k
    → sum_by g ks + c ≡ sum_by f ks + d
    → sum_by g (cond m ks (k ∷ ks)) + c ≡ sum_by f (cond m ks (k ∷ ks)) + d
changed_there f g k ks true c d e h = h
changed_there f g k ks false c d e h = omega (arith, e, h, sum_by-cons f k ks, sum_by-cons g k ks)

-- one more element in front, which may be in the list already
added : {K : Type 0} (f g : K → ℕ) (s : K) (ks : List K) (m : Bool)
    → sum_by g ks + cond m (f s) 0 ≡ sum_by f ks + cond m (g s) 0
    → sum_by g (cond m ks (s ∷ ks)) + cond m (f s) 0 ≡ sum_by f ks + g s
added f g s ks true h = h
added f g s ks false h = omega (arith, h, sum_by-cons g s ks)

grown : {K : Type 0} (f : K → ℕ) (s : K) (ks : List K) (m : Bool)
    → sum_by f ks ≤ sum_by f (cond m ks (s ∷ ks))
grown f s ks true = omega arith
grown f s ks false = omega (arith, sum_by-cons f s ks)

module _ {K : Type 0} (same : K → K → Bool) (decides : (a b : K) → Decides (same a b) (a ≡ b)) where
  -- two functions that agree but at s
  sum_by-distinct-changed : (f g : K → ℕ) (s : K) → ((k : K) → k ≢ s → g k ≡ f k) → (ks : List K)
      → sum_by g (distinct same ks) + cond (list_any (same s) ks) (f s) 0
      ≡ sum_by f (distinct same ks) + cond (list_any (same s) ks) (g s) 0
  sum_by-distinct-changed f g s agree [] = refl
  sum_by-distinct-changed f g s agree (k ∷ ks) =
      let before = sum_by-distinct-changed f g s agree ks in
      elim (same s k) as (λ r. same s k ≡ r
      → sum_by g (distinct same (k ∷ ks)) + cond (r || list_any (same s) ks) (f s) 0
      ≡ sum_by f (distinct same (k ∷ ks)) + cond (r || list_any (same s) ks) (g s) 0) [
        | true ↦ λ e. subst (λ x. sum_by g (distinct same (x ∷ ks)) + f s
            ≡ sum_by f (distinct same (x ∷ ks)) + g s) ((decides s k).0 e)
            (changed_here f g s (distinct same ks) (list_any (same s) ks) before)
        | false ↦ λ e.
            let other : g k ≡ f k =
            agree k (λ is. true≢false (sym ((decides s k).1 (sym is)) ∙ e)) in
            changed_there f g k (distinct same ks) (list_any (same k) ks)
            (cond (list_any (same s) ks) (f s) 0)
            (cond (list_any (same s) ks) (g s) 0) other before
      ] refl

  -- One more element s, and a function that differs from the old one only at s. The sum gains what
  -- s gains; a new element counted 0 before.
  pub sum_by-distinct-more : (f g : K → ℕ) (s : K) → ((k : K) → k ≢ s → g k ≡ f k) → (ks : List K)
      → sum_by g (distinct same (s ∷ ks)) + cond (list_any (same s) ks) (f s) 0
      ≡ sum_by f (distinct same ks) + g s
  sum_by-distinct-more f g s agree ks =
      added f g s (distinct same ks) (list_any (same s) ks) (sum_by-distinct-changed f g s agree ks)

  -- a sum over more elements is no less
  pub sum_by-distinct-le : (f : K → ℕ) (s : K) (ks : List K)
      → sum_by f (distinct same ks) ≤ sum_by f (distinct same (s ∷ ks))
  sum_by-distinct-le f s ks = grown f s (distinct same ks) (list_any (same s) ks)

  -- each element is a part of the sum
  pub le-sum_by-distinct : (f : K → ℕ) (s : K) (ks : List K) → list_any (same s) ks ≡ true
      → f s ≤ sum_by f (distinct same ks)
  le-sum_by-distinct f s [] none = absurd (true≢false (sym none))
  le-sum_by-distinct f s (k ∷ ks) there =
      elim (same s k) as (λ r. same s k ≡ r → (r || list_any (same s) ks) ≡ true
      → f s ≤ sum_by f (distinct same (k ∷ ks))) [
        | true ↦ λ e _.
            elim (list_any (same s) ks) as (λ r. list_any (same s) ks ≡ r
            → f s ≤ sum_by f (distinct same (k ∷ ks))) [
              | true ↦ λ h. omega (arith, le-sum_by-distinct f s ks h, sum_by-distinct-le f k ks)
              | false ↦ λ h. subst (λ x. f s ≤ sum_by f (distinct same (x ∷ ks)))
                  ((decides s k).0 e)
                  (let at_s : f s ≤ sum_by f
                  (cond false (distinct same ks) (s ∷ distinct same ks)) =
                  omega (arith, sum_by-cons f s (distinct same ks)) in
                  subst (λ b. f s ≤ sum_by f (cond b (distinct same ks) (s ∷ distinct same ks)))
                  (sym h) at_s)
            ] refl
        | false ↦ λ e h. omega (arith, le-sum_by-distinct f s ks h, sum_by-distinct-le f k ks)
      ] refl there
