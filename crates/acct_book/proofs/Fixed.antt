-- Lists of members in order are fixed by their members.
use Rattle.std.proofs.Common.{◌≡◌, inl, inr, List, [], ◌∷◌, map, refl, sym, ap, ◌∙◌, subst}
use Rattle.std.specs.Prelude.{◌↔◌, Bool, Option, Contains, bytes_eq}
use Rattle.std.specs.List.{AllByRecursion}
use Rattle.std.specs.List.Sorted.{IsStrictlySortedBy}
use Rattle.std.specs.Cmp.{IsTotalOrder}
use Rattle.std.specs.Ordering.{ordering_reverse}
use Rattle.std.specs.declared.cmp.Ordering.{Ordering}
use Rattle.std.specs.declared.cmp.Ordering.TheVariants.{Less, Greater}
use Rattle.std.specs.Cmp.Lexicographic.{nat_list_cmp_total}
use Rattle.acct_model.proofs.Lists.{here, deeper, nowhere, front_or_behind}
use Rattle.acct_book.specs.declared.key.Key.{Key}
use Rattle.acct_book.specs.Content.{Content, key_of}
use Rattle.acct_book.specs.Maps.{octets_cmp, key_cmp}
use Rattle.acct_book.specs.Walk.{AreMembers, ListsAreFixed}
use Rattle.acct_book.proofs.WalkLaws.{key_total}

module _ {K X : Type 0} (cmp : K → K → Ordering) (total : IsTotalOrder cmp) (key : X → K) where
  pub below_all : (k : K) (x : X) (xs : List X) → AllByRecursion (λ j. cmp k j ≡ Less) (map key xs)
      → Contains xs x → cmp k (key x) ≡ Less
  below_all k x [] below there = absurd (nowhere x there)
  below_all k x (y ∷ ys) below there = elim (front_or_behind y x ys there) [
    | inl is ↦ ap (λ z. cmp k (key z)) (sym is) ∙ below.0
    | inr behind ↦ below_all k x ys below.1 behind
  ]

  not_both : (j k : K) → cmp j k ≡ Less → cmp k j ≡ Less → ⊥
  not_both j k jk kj =
      let turned : cmp k j ≡ Greater = total.antisymm k j ∙ ap ordering_reverse jk in cc

  pub not_itself : (k : K) → cmp k k ≡ Less → ⊥
  not_itself k kk = not_both k k kk kk

  abbrev Within : List X → List X → Type 0
  Within xs ys = (z : X) → Contains xs z → Contains ys z

  same_head : (x y : X) (xs ys : List X) → IsStrictlySortedBy cmp (map key (x ∷ xs))
      → IsStrictlySortedBy cmp (map key (y ∷ ys)) → Within (x ∷ xs) (y ∷ ys)
      → Within (y ∷ ys) (x ∷ xs) → x ≡ y
  unfolding IsStrictlySortedBy
  same_head x y xs ys sx sy to from = elim (front_or_behind y x ys (to x (here x xs))) [
    | inl is ↦ sym is
    | inr x_later ↦ elim (front_or_behind x y xs (from y (here y ys))) [
      | inl is ↦ is
      | inr y_later ↦ absurd (not_both (key x) (key y) (below_all (key x) y xs sx.0 y_later)
          (below_all (key y) x ys sy.0 x_later))
    ]
  ]

  rest_within : (x y : X) (xs ys : List X) → x ≡ y → IsStrictlySortedBy cmp (map key (x ∷ xs))
      → Within (x ∷ xs) (y ∷ ys) → Within xs ys
  unfolding IsStrictlySortedBy
  rest_within x y xs ys same sx to z there =
      elim (front_or_behind y z ys (to z (deeper x z xs there))) [
        | inl is ↦ absurd (not_itself (key x)
            (subst (λ v. cmp (key x) (key v) ≡ Less) (sym (same ∙ is))
            (below_all (key x) z xs sx.0 there)))
        | inr behind ↦ behind
      ]

  one_list : (xs ys : List X) → IsStrictlySortedBy cmp (map key xs)
      → IsStrictlySortedBy cmp (map key ys) → Within xs ys → Within ys xs → xs ≡ ys
  unfolding IsStrictlySortedBy
  one_list [] [] sx sy to from = refl
  one_list [] (y ∷ ys) sx sy to from = absurd (nowhere y (from y (here y ys)))
  one_list (x ∷ xs) [] sx sy to from = absurd (nowhere x (to x (here x xs)))
  one_list (x ∷ xs) (y ∷ ys) sx sy to from =
      let same : x ≡ y = same_head x y xs ys sx sy to from in
      let rest : xs ≡ ys = one_list xs ys sx.1 sy.1 (rest_within x y xs ys same sx to)
      (rest_within y x ys xs (sym same) sy from) in
      λ i. same i ∷ rest i

  -- two lists of the members of one map that pass one test are one
  pub members-fixed : (at : K → Option X) (test : X → Bool) (these those : List X)
      → AreMembers cmp key at test these → AreMembers cmp key at test those → these ≡ those
  members-fixed at test these those a b = one_list these those a.in_order b.in_order
      (λ z h. (b.each z).1 ((a.each z).0 h)) (λ z h. (a.each z).1 ((b.each z).0 h))

same_keys : (keys : List Key) → keys ≡ map (λ key. key) keys
same_keys [] = refl
same_keys (key ∷ keys) = ap (λ rest. key ∷ rest) (same_keys keys)

-- keys in order are fixed by their members
keys_fixed : (these those : List Key) → IsStrictlySortedBy key_cmp these
    → IsStrictlySortedBy key_cmp those
    → ((key : Key) → Contains these key ↔ Contains those key) → these ≡ those
keys_fixed these those a b same = one_list key_cmp key_total (λ key. key) these those
    (subst (IsStrictlySortedBy key_cmp) (same_keys these) a)
    (subst (IsStrictlySortedBy key_cmp) (same_keys those) b)
    (λ key. (same key).0) (λ key. (same key).1)

pub lists-fixed : (content : Content) → ListsAreFixed content
lists-fixed content = record {
  rows = λ account. members-fixed key_cmp key_total key_of content.rows
      (λ row. bytes_eq account row.account);
  keys = λ account these those a b. keys_fixed these those a.in_order b.in_order
      (λ key. (
        λ there. (b.each key).1 ((a.each key).0 there),
        λ there. (a.each key).1 ((b.each key).0 there),
      ));
  topups = λ account. members-fixed octets_cmp nat_list_cmp_total (λ topup. topup.voucher)
      content.topups (λ topup. bytes_eq account topup.account);
}
