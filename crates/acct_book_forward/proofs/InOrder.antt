-- Parts of a list that is in order.
use Rattle.std.proofs.Common.{◌≡◌, ℕ, List, [], ◌∷◌, ◌++◌, take, drop, sym, subst}
use Rattle.std.specs.List.{AllByRecursion}
use Rattle.std.specs.List.Sorted.{IsStrictlySortedBy}
use Rattle.std.specs.declared.cmp.Ordering.{Ordering}
use Rattle.std.specs.declared.cmp.Ordering.TheVariants.{Less}
use Rattle.std.proofs.lemmas.List.{take-append-drop}

all_front : {K : Type 0} (P : K → Type 0) (xs ys : List K) → AllByRecursion P (xs ++ ys)
    → AllByRecursion P xs
all_front P [] ys all = tt
all_front P (x ∷ xs) ys all = (all.0, all_front P xs ys all.1)

all_less : {K : Type 0} (P : K → Type 0) (xs : List K) (k : K) (ys : List K)
    → AllByRecursion P (xs ++ k ∷ ys) → AllByRecursion P (xs ++ ys)
all_less P [] k ys all = all.1
all_less P (x ∷ xs) k ys all = (all.0, all_less P xs k ys all.1)

module _ {K : Type 0} (cmp : K → K → Ordering) where
  order_front : (xs ys : List K) → IsStrictlySortedBy cmp (xs ++ ys) → IsStrictlySortedBy cmp xs
  unfolding IsStrictlySortedBy
  order_front [] ys sorted = tt
  order_front (x ∷ xs) ys sorted = (
    all_front (λ y. cmp x y ≡ Less) xs ys sorted.0,
    order_front xs ys sorted.1,
  )

  order_back : (xs ys : List K) → IsStrictlySortedBy cmp (xs ++ ys) → IsStrictlySortedBy cmp ys
  unfolding IsStrictlySortedBy
  order_back [] ys sorted = sorted
  order_back (x ∷ xs) ys sorted = order_back xs ys sorted.1

  -- without one of them
  pub order_less : (xs : List K) (k : K) (ys : List K) → IsStrictlySortedBy cmp (xs ++ k ∷ ys)
      → IsStrictlySortedBy cmp (xs ++ ys)
  unfolding IsStrictlySortedBy
  order_less [] k ys sorted = sorted.1
  order_less (x ∷ xs) k ys sorted = (
    all_less (λ y. cmp x y ≡ Less) xs k ys sorted.0,
    order_less xs k ys sorted.1,
  )

  -- the first ones, and the others
  pub order_take : (n : ℕ) (xs : List K) → IsStrictlySortedBy cmp xs
      → IsStrictlySortedBy cmp (take n xs)
  order_take n xs sorted = order_front (take n xs) (drop n xs)
      (subst (IsStrictlySortedBy cmp) (sym (take-append-drop n xs)) sorted)

  pub order_drop : (n : ℕ) (xs : List K) → IsStrictlySortedBy cmp xs
      → IsStrictlySortedBy cmp (drop n xs)
  order_drop n xs sorted = order_back (take n xs) (drop n xs)
      (subst (IsStrictlySortedBy cmp) (sym (take-append-drop n xs)) sorted)
