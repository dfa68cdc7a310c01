-- Why a walk meets each member.
use Rattle.std.proofs.Common.{◌≡◌, List, [], ◌∷◌, refl, sym, ap, ◌∙◌, subst, arith}
use Rattle.std.specs.Prelude.{Option, Some, None, Contains}
use Rattle.std.specs.List.{All, AllByRecursion}
use Rattle.std.specs.List.Sorted.{IsStrictlySortedBy}
use Rattle.std.specs.Map.{keys_of}
use Rattle.std.specs.Cmp.{IsTotalOrder, on_total}
use Rattle.std.specs.Ordering.{ordering_reverse, ordering_then}
use Rattle.std.specs.declared.cmp.Ordering.{Ordering}
use Rattle.std.specs.declared.cmp.Ordering.TheVariants.{Less, Equal, Greater}
use Rattle.std.specs.Cmp.Lexicographic.{nat_list_cmp_total}
use Rattle.std.proofs.lemmas.Cmp.{then_total}
use Rattle.std.proofs.lemmas.Map.Lookups.{exact_bytes}
use Rattle.std.proofs.lemmas.List.Elements.{All-cons, All-weaker, All-contains}
use Rattle.std.proofs.lemmas.List.Elements.{Contains-append_left, Contains-append_right}
use Rattle.acct_book.specs.declared.key.Key.{Key}
use Rattle.acct_book.specs.Content.{Content}
use Rattle.acct_book.specs.Maps.{octets_cmp, key_cmp}
use Rattle.acct_book.specs.Walk.{IsPast, IsNext, IsWalk, AreAllPast, WalksMeetAll}

some_is : {A : Type 0} (x y : A) → Some x ≡ Some y → x ≡ y
some_is x y e = cc

not_both : {A : Type 0} (o : Option A) (x : A) → o ≡ Some x → o ≡ None → ⊥
not_both o x e f = cc

all_weaker : {K : Type 0} (P Q : K → Type 0) → ((k : K) → P k → Q k) → (ks : List K)
    → AllByRecursion P ks → AllByRecursion Q ks
all_weaker P Q f [] h = h
all_weaker P Q f (k ∷ ks) h = (f k h.0, all_weaker P Q f ks h.1)

module _ {K X : Type 0} (cmp : K → K → Ordering) (total : IsTotalOrder cmp) (exact : (x y : K)
    → cmp x y ≡ Equal → x ≡ y) (at : K → Option X) where
  further : (after : Option K) (k j : K) → IsPast cmp after k → cmp k j ≡ Less → IsPast cmp after j
  further None k j p q = tt
  further (Some a) k j p q = total.trans a k j p q

  pasts : (after : Option K) (xs : List (K × X)) → IsWalk cmp at after xs
      → AllByRecursion (IsPast cmp after) (keys_of xs)
  pasts after [] w = tt
  pasts after ((k, x) ∷ rest) w = (
    w.0.1,
    all_weaker (λ j. cmp k j ≡ Less) (IsPast cmp after)
        (λ j q. further after k j w.0.1 q) (keys_of rest) (pasts (Some k) rest w.1),
  )

  sorted : (after : Option K) (xs : List (K × X)) → IsWalk cmp at after xs
      → IsStrictlySortedBy cmp (keys_of xs)
  unfolding IsStrictlySortedBy
  sorted after [] w = tt
  sorted after ((k, x) ∷ rest) w = (pasts (Some k) rest w.1, sorted (Some k) rest w.1)

  abbrev Stored : Option K → K × X → Type 0
  Stored after e = (at e.0 ≡ Some e.1) × IsPast cmp after e.0

  stored : (after : Option K) (xs : List (K × X)) → IsWalk cmp at after xs → All (Stored after) xs
  stored after [] w = λ i d h. absurd (omega (arith, h))
  stored after ((k, x) ∷ rest) w =
      All-cons (Stored after) (k, x) rest (w.0.0, w.0.1)
      (All-weaker (Stored (Some k)) (Stored after) (λ e s. (s.0, further after k e.0 w.0.1 s.1))
      rest (stored (Some k) rest w.1))

  met_at : (after : Option K) (j : K) (y : X) (rest : List (K × X))
      → IsNext cmp at after (Some (j, y)) → (k : K) (x : X) → at k ≡ Some x → IsPast cmp after k
      → (cmp j k ≡ Less → Contains rest (k, x)) → (o : Ordering) → cmp k j ≡ o
      → Contains ((j, y) ∷ rest) (k, x)
  met_at after j y rest w k x is past later Less e = absurd (not_both (at k) x is (w.2 k past e))
  met_at after j y rest w k x is past later Equal e =
      let same : j ≡ k = sym (exact k j e) in
      let value : y ≡ x = some_is y x (sym w.0 ∙ ap at same ∙ is) in
      subst (λ (p : K × X). Contains ((j, y) ∷ rest) p) (λ i. (same i, value i))
      (Contains-append_left ((j, y) ∷ []) rest (j, y) (0, omega arith, refl))
  met_at after j y rest w k x is past later Greater e =
      Contains-append_right ((j, y) ∷ []) rest (k, x) (later
      (total.antisymm j k ∙ ap ordering_reverse e))

  met : (after : Option K) (xs : List (K × X)) → IsWalk cmp at after xs → (k : K) (x : X)
      → at k ≡ Some x → IsPast cmp after k → Contains xs (k, x)
  met after [] w k x is past = absurd (not_both (at k) x is (w k past))
  met after ((j, y) ∷ rest) w k x is past = met_at after j y rest w.0 k x is past
      (λ less. met (Some j) rest w.1 k x is less) (cmp k j) refl

  pub walk-all : (after : Option K) (xs : List (K × X)) → IsWalk cmp at after xs
      → AreAllPast cmp at after xs
  walk-all after xs w = record {
    in_order = sorted after xs w;
    each = λ k x. (
      (λ h. All-contains (Stored after) xs (k, x) (stored after xs w) h),
      (λ h. met after xs w k x h.0 h.1),
    );
  }

pub key_total : IsTotalOrder key_cmp
key_total = then_total (on_total (λ (k : Key). k.client) nat_list_cmp_total)
    (on_total (λ (k : Key). k.session) nat_list_cmp_total)

parts : (o p : Ordering) → ordering_then o p ≡ Equal → (o ≡ Equal) × (p ≡ Equal)
parts Less p e = absurd (cc)
parts Equal p e = (refl, e)
parts Greater p e = absurd (cc)

pub key_exact : (x y : Key) → key_cmp x y ≡ Equal → x ≡ y
key_exact x y e =
    let both = parts (octets_cmp x.client y.client) (octets_cmp x.session y.session) e in
    λ i. record {
      client = exact_bytes x.client y.client both.0 i;
      session = exact_bytes x.session
          y.session both.1 i;
    }

pub walks-meet-all : (content : Content) → WalksMeetAll content
walks-meet-all content = record {
  rows = walk-all key_cmp key_total key_exact content.rows;
  balances = walk-all octets_cmp nat_list_cmp_total exact_bytes content.balances;
  topups = walk-all octets_cmp nat_list_cmp_total exact_bytes content.topups;
}
