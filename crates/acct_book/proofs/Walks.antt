-- The next member of a map, by octets.
use Rattle.std.proofs.Common.{◌≡◌, ℕ, List, refl, sym, ap, ◌∙◌, subst}
use Rattle.std.specs.Prelude.{Option, Some, None, option_map}
use Rattle.std.specs.Borrow.{Bor}
use Rattle.std.specs.declared.cmp.Ordering.{Ordering}
use Rattle.std.specs.declared.cmp.Ordering.TheVariants.{Less}
use Rattle.std.specs.BTreeMap as tree
use Rattle.std.specs.BTreeMap.{BTreeMap, is_at}
use Rattle.std.proofs.lemmas.Map.Text.{is_eq-slice_cmp}
use Rattle.std.proofs.lemmas.Map.Entries.{place_from_lookup}
use Rattle.acct_book.specs.Maps.{octets_cmp}
use Rattle.acct_book.specs.Walk.{IsPast, IsNext}
use Rattle.acct_book.proofs.Keys.{octets_are}

module _ {K X : Type 0} (f : K → List ℕ) (m : BTreeMap K X) where
  abbrev cmp_by : K → K → Ordering
  cmp_by a b = octets_cmp (f a) (f b)

  abbrev at_octets : List ℕ → Option X
  at_octets bs = tree.get_by (λ k. octets_cmp bs (f k)) m

  -- octets that have a member are those of a key
  key_at : (bs : List ℕ) (x : X) → at_octets bs ≡ Some x → (k : K) × (bs ≡ f k)
  key_at bs x is =
      let place = place_from_lookup (is_at (λ k. octets_cmp bs (f k))) m.entries x is in
      (place.1, octets_are bs (f place.1) (sym (is_eq-slice_cmp bs (f place.1)) ∙ place.3))

  none_at : (P : List ℕ → Type 0) → ((k : K) → P (f k) → at_octets (f k) ≡ None) → (bs : List ℕ)
      → P bs → (o : Option X) → at_octets bs ≡ o → o ≡ None
  none_at P none bs past None is = refl
  none_at P none bs past (Some x) is =
      let key = key_at bs x is in
      sym is ∙ ap at_octets key.1 ∙ none key.0 (subst P key.1 past)

  past_is : (after : Option K) (k : K) → IsPast octets_cmp (option_map f after) (f k)
      → IsPast cmp_by after k
  past_is None k h = h
  past_is (Some start) k h = h

  past_back : (after : Option K) (k : K) → IsPast cmp_by after k
      → IsPast octets_cmp (option_map f after) (f k)
  past_back None k h = h
  past_back (Some start) k h = h

  -- the next member by the keys is the next by their octets
  pub next-octets : (after : Option K) (next : Option (K × X))
      → IsNext cmp_by (tree.get cmp_by m) after next
      → IsNext octets_cmp at_octets (option_map f after) (option_map (λ e. (f e.0, e.1)) next)
  next-octets after None h = λ bs past. none_at (IsPast octets_cmp (option_map f after))
      (λ k p. h k (past_is after k p)) bs past (at_octets bs) refl
  next-octets after (Some (k, x)) h = (
    h.0,
    past_back after k h.1,
    (λ bs past below. none_at (λ cs. IsPast octets_cmp (option_map f after) cs
        × (octets_cmp cs (f k) ≡ Less)) (λ q p. h.2 q (past_is after q p.0) p.1) bs (past, below)
        (at_octets bs) refl),
  )

  abbrev lent : Bor K × Bor X → K × X
  lent e = (e.0.now, e.1.now)

  abbrev lent_octets : Bor K × Bor X → List ℕ × X
  lent_octets e = (f e.0.now, e.1.now)

  abbrev with_octets : K × X → List ℕ × X
  with_octets e = (f e.0, e.1)

  compose : (r : Option (Bor K × Bor X)) → option_map with_octets
      (option_map lent r) ≡ option_map lent_octets r
  compose None = refl
  compose (Some e) = refl

  -- the same of the entry that a search lends
  pub next-lent : (start : Option K) (after : Option (List ℕ)) (r : Option (Bor K × Bor X))
      → option_map f start ≡ after
      → IsNext cmp_by (tree.get cmp_by m) start (option_map lent r)
      → IsNext octets_cmp at_octets after (option_map lent_octets r)
  next-lent start after r is h =
      subst (λ o. IsNext octets_cmp at_octets o (option_map lent_octets r)) is
      (subst (IsNext octets_cmp at_octets (option_map f start)) (compose r)
      (next-octets start (option_map lent r) h))

-- a copy of the next entry
pub next-copy : {K X : Type 0} (cmp : K → K → Ordering) (at : K → Option X) (after : Option K)
    (j k : K) (x y : X) → IsNext cmp at after (Some (k, x)) → j ≡ k → y ≡ x
    → IsNext cmp at after (Some (j, y))
next-copy {K = K} cmp at after j k x y h same copy =
    subst (λ (i : K). IsNext cmp at after (Some (i, y))) (sym same)
    (subst (λ z. IsNext cmp at after (Some (k, z))) (sym copy) h)

-- a copy of the next member, which is under its own key
pub next-own : {K X : Type 0} (cmp : K → K → Ordering) (at : K → Option X) (after : Option K)
    (key : X → K) (k : K) (x y : X) → IsNext cmp at after (Some (k, x))
    → ((j : K) (z : X) → at j ≡ Some z → key z ≡ j) → y ≡ x → IsNext cmp at after (Some (key y, y))
next-own cmp at after key k x y h own copy = next-copy cmp at after (key y) k x y h
    (ap key copy ∙ own k x h.0) copy
