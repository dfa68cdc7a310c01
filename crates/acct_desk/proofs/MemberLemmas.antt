-- Two lists of the same members in order are one list.
use Rattle.std.proofs.Common.{◌≡◌, List, [], ◌∷◌, map, refl, sym, ap, ◌∙◌, subst, inl, inr}
use Rattle.std.specs.Prelude.{Bool, Option, Contains}
use Rattle.std.specs.List.{AllByRecursion}
use Rattle.std.specs.List.Sorted.{IsStrictlySortedBy}
use Rattle.std.specs.Cmp.{IsTotalOrder, on_total}
use Rattle.std.specs.Ordering.{ordering_reverse}
use Rattle.std.specs.declared.cmp.Ordering.{Ordering}
use Rattle.std.specs.declared.cmp.Ordering.TheVariants.{Less, Greater}
use Rattle.std.specs.Cmp.Lexicographic.{nat_list_cmp_total}
use Rattle.std.proofs.lemmas.Cmp.{then_total}
use Rattle.acct_model.proofs.Lists.{here, deeper, nowhere, front_or_behind, to_map}
use Rattle.acct_book.specs.declared.key.Key.{Key}
use Rattle.acct_book.specs.Maps.{octets_cmp, key_cmp}
use Rattle.acct_book.specs.Walk.{AreMembers}

pub key_total : IsTotalOrder key_cmp
key_total = then_total (on_total (λ (k : Key). k.client) nat_list_cmp_total)
    (on_total (λ (k : Key). k.session) nat_list_cmp_total)

pub octets_total : IsTotalOrder octets_cmp
octets_total = nat_list_cmp_total

all_holds : {X : Type 0} (P : X → Type 0) (xs : List X) (m : X) → AllByRecursion P xs
    → Contains xs m → P m
all_holds P [] m all h = absurd (nowhere m h)
all_holds P (x ∷ xs) m all h = elim (front_or_behind x m xs h) [
  | inl is ↦ subst P is all.0
  | inr later ↦ all_holds P xs m all.1 later
]

head_below : {K : Type 0} (cmp : K → K → Ordering) (k : K) (ks : List K)
    → IsStrictlySortedBy cmp (k ∷ ks) → AllByRecursion (λ y. cmp k y ≡ Less) ks
unfolding IsStrictlySortedBy
head_below cmp k ks h = h.0

tail_sorted : {K : Type 0} (cmp : K → K → Ordering) (k : K) (ks : List K)
    → IsStrictlySortedBy cmp (k ∷ ks) → IsStrictlySortedBy cmp ks
unfolding IsStrictlySortedBy
tail_sorted cmp k ks h = h.1

module _ {K X : Type 0} (cmp : K → K → Ordering) (total : IsTotalOrder cmp) (key : X → K) where
  below : (x m : X) (xs : List X) → IsStrictlySortedBy cmp (map key (x ∷ xs)) → Contains xs m
      → cmp (key x) (key m) ≡ Less
  below x m xs s h = all_holds (λ k. cmp (key x) k ≡ Less) (map key xs) (key m)
      (head_below cmp (key x) (map key xs) s) (to_map key xs m h)

  not_below : (k : K) → cmp k k ≡ Less → ⊥
  not_below k less = let e : Less ≡ Greater = sym less ∙ total.antisymm k k
      ∙ ap ordering_reverse less in cc

  -- a member of both tails
  tails : (x y : X) (xs ys : List X) → x ≡ y → IsStrictlySortedBy cmp (map key (x ∷ xs))
      → ((m : X) → Contains (x ∷ xs) m → Contains (y ∷ ys) m) → (m : X) → Contains xs m
      → Contains ys m
  tails x y xs ys is s forth m h = elim (front_or_behind y m ys (forth m (deeper x m xs h))) [
    | inl first ↦ absurd (not_below (key x) (subst (λ v. cmp (key x) (key v) ≡ Less) (sym first
        ∙ sym is) (below x m xs s h)))
    | inr later ↦ later
  ]

  heads : (x y : X) (xs ys : List X) → IsStrictlySortedBy cmp (map key (x ∷ xs))
      → IsStrictlySortedBy cmp (map key (y ∷ ys)) → Contains (y ∷ ys) x → Contains (x ∷ xs) y
      → x ≡ y
  heads x y xs ys s t forth back = elim (front_or_behind y x ys forth) [
    | inl first ↦ sym first
    | inr later ↦ elim (front_or_behind x y xs back) [
      | inl first ↦ first
      | inr behind ↦ absurd (not_below (key y)
          (total.trans (key y) (key x) (key y) (below y x ys t later) (below x y xs s behind)))
    ]
  ]

  same_members : (xs ys : List X) → IsStrictlySortedBy cmp (map key xs)
      → IsStrictlySortedBy cmp (map key ys) → ((m : X) → Contains xs m → Contains ys m)
      → ((m : X) → Contains ys m → Contains xs m) → xs ≡ ys
  same_members [] [] s t forth back = refl
  same_members [] (y ∷ ys) s t forth back = absurd (nowhere y (back y (here y ys)))
  same_members (x ∷ xs) [] s t forth back = absurd (nowhere x (forth x (here x xs)))
  same_members (x ∷ xs) (y ∷ ys) s t forth back =
      let is = heads x y xs ys s t (forth x (here x xs)) (back y (here y ys)) in
      let rest = same_members xs ys (tail_sorted cmp (key x) (map key xs) s)
      (tail_sorted cmp (key y) (map key ys) t)
      (tails x y xs ys is s forth) (tails y x ys xs (sym is) t back) in
      λ i. is i ∷ rest i

  pub members_same : (at : K → Option X) (test : X → Bool) (xs ys : List X)
      → AreMembers cmp key at test xs → AreMembers cmp key at test ys → xs ≡ ys
  members_same at test xs ys a b =
      same_members xs ys a.in_order b.in_order (λ m h. (b.each m).1 ((a.each m).0 h))
      (λ m h. (a.each m).1 ((b.each m).0 h))
