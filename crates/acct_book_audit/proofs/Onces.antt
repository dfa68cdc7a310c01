-- Sums over lists in which each element occurs once.
use Rattle.std.proofs.Common.{◌≡◌, ℕ, ◌+◌, Bool, true, false, cond, ◌||◌, List, [], ◌∷◌, map, refl}
use Rattle.std.proofs.Common.{sym, ap, ◌∙◌, subst, arith, true≢false}
use Rattle.std.proofs.lemmas.List.Sums.{sum_by-cons}
use Rattle.std.specs.Prelude.{Contains}
use Rattle.std.specs.Bool.{Decides}
use Rattle.std.specs.List.{filter, list_any, sum_by}
use Rattle.std.specs.List.Sorted.{IsStrictlySortedBy}
use Rattle.std.specs.Cmp.{IsTotalOrder}
use Rattle.std.specs.declared.cmp.Ordering.{Ordering}
use Rattle.std.specs.declared.cmp.Ordering.TheVariants.{Less}
use Rattle.acct_model.specs.History.{distinct}
use Rattle.acct_model.proofs.Lists.{here, deeper, from_map, some_same}
use Rattle.acct_model.proofs.Same.{Decides-false}
use Rattle.acct_book.proofs.Fixed.{below_all, not_itself}

pub any_passes : {X : Type 0} (p : X → Bool) (xs : List X) (x : X) → Contains xs x → p x ≡ true
    → list_any p xs ≡ true
any_passes p xs x there passes = some_same (λ one. p) x x xs there passes

-- no element passes a test that each fails
pub none_any : {X : Type 0} (p : X → Bool) (xs : List X) → ((x : X) → Contains xs x → p x ≡ false)
    → list_any p xs ≡ false
none_any p [] none = refl
none_any p (x ∷ xs) none =
    ap (λ b. b || list_any p xs) (none x (here x xs))
    ∙ none_any p xs (λ y there. none y (deeper x y xs there))

-- a sum over mapped elements
pub sum_by-map : {X Y : Type 0} (f : Y → ℕ) (g : X → Y) (h : X → ℕ) (xs : List X)
    → ((x : X) → Contains xs x → f (g x) ≡ h x) → sum_by f (map g xs) ≡ sum_by h xs
sum_by-map f g h [] same = refl
sum_by-map f g h (x ∷ xs) same =
    sum_by-cons f (g x) (map g xs)
    ∙ (λ i. same x (here x xs) i
    + sum_by-map f g h xs (λ y there. same y (deeper x y xs there)) i)
    ∙ sym (sum_by-cons h x xs)

module _ {N : Type 0} (same : N → N → Bool) (decides : (a b : N) → Decides (same a b) (a ≡ b)) where
  -- an element that passes a test is among those that pass if it is in the list
  among : (p : N → Bool) (n : N) (ns : List N) → p n ≡ true
      → list_any (same n) (filter p ns) ≡ list_any (same n) ns
  among p n [] passes = refl
  among p n (m ∷ ns) passes =
      elim (p m) as (λ b. p m ≡ b
      → list_any (same n) (cond b (m ∷ filter p ns) (filter p ns))
      ≡ (same n m || list_any (same n) ns)) [
        | true ↦ λ e. ap (λ b. same n m || b) (among p n ns passes)
        | false ↦ λ e.
            let other : same n m ≡ false = Decides-false (same n m) (decides n m) (λ is.
            true≢false (sym passes ∙ ap p is ∙ e)) in
            among p n ns passes ∙ sym (ap (λ b. b || list_any (same n) ns) other)
      ] refl

  -- elements that weigh nothing may be left out
  pub without_weightless : (p : N → Bool) (f : N → ℕ) → ((n : N) → p n ≡ false → f n ≡ 0)
      → (ns : List N) → sum_by f (distinct same (filter p ns)) ≡ sum_by f (distinct same ns)
  without_weightless p f none [] = refl
  without_weightless p f none (n ∷ ns) =
      let rest = without_weightless p f none ns in
      elim (p n) as (λ b. p n ≡ b
      → sum_by f (distinct same (cond b (n ∷ filter p ns) (filter p ns)))
      ≡ sum_by f (distinct same (n ∷ ns))) [
        | true ↦ λ e.
            ap (λ b. sum_by f
            (cond b (distinct same (filter p ns)) (n ∷ distinct same (filter p ns))))
            (among p n ns e)
            ∙ (elim (list_any (same n) ns) as (λ b.
            sum_by f (cond b (distinct same (filter p ns)) (n ∷ distinct same (filter p ns)))
            ≡ sum_by f (cond b (distinct same ns) (n ∷ distinct same ns))) [
              | true ↦ rest
              | false ↦ sum_by-cons f n (distinct same (filter p ns)) ∙ ap (λ k. f n + k) rest
                  ∙ sym (sum_by-cons f n (distinct same ns))
            ])
        | false ↦ λ e. rest ∙ (elim (list_any (same n) ns) as (λ b.
            sum_by f (distinct same ns)
            ≡ sum_by f (cond b (distinct same ns) (n ∷ distinct same ns))) [
              | true ↦ refl
              | false ↦
                  let cons = sum_by-cons f n (distinct same ns) in
                  let nothing = none n e in
                  omega (arith, cons, nothing)
            ])
      ] refl

  -- if elements are in strict order of other keys, each of their names occurs once
  module _ {K X : Type 0} (cmp : K → K → Ordering) (total : IsTotalOrder cmp) (key : X → K)
      (name : X → N) (keyed : (x y : X) → name x ≡ name y → key x ≡ key y) where
    pub once : (xs : List X) → IsStrictlySortedBy cmp (map key xs)
        → distinct same (map name xs) ≡ map name xs
    unfolding IsStrictlySortedBy
    once [] sorted = refl
    once (x ∷ xs) sorted =
        let others : list_any (same (name x)) (map name xs) ≡ false =
        none_any (same (name x)) (map name xs) (λ n there.
        let found = from_map name xs n there in
        Decides-false (same (name x) n) (decides (name x) n) (λ is.
        not_itself cmp total key (key x)
        (subst (λ k. cmp (key x) k ≡ Less) (sym (keyed x found.0 (is ∙ sym found.2)))
        (below_all cmp total key (key x) found.0 xs sorted.0 found.1)))) in
        ap (λ b. cond b (distinct same (map name xs)) (name x ∷ distinct same (map name xs))) others
        ∙ ap (λ ns. name x ∷ ns) (once xs sorted.1)
