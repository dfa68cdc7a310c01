-- Lists of the members of a map, in order.
use Rattle.std.proofs.Common.{◌≡◌, Bool, true, false, cond, List, [], ◌∷◌, map, refl, sym, ap, ◌∙◌}
use Rattle.std.proofs.Common.{subst, arith}
use Rattle.std.specs.Prelude.{Some, Contains}
use Rattle.std.specs.List.{filter, All, AllByRecursion}
use Rattle.std.specs.List.Sorted.{IsStrictlySortedBy}
use Rattle.std.specs.Map.{lookup, keys_of, values_of}
use Rattle.std.specs.declared.cmp.Ordering.{Ordering}
use Rattle.std.specs.declared.cmp.Ordering.TheVariants.{Less}
use Rattle.std.proofs.lemmas.List.Elements.{All-head, All-tail, All-weaker, All-map, All-filter}
use Rattle.std.proofs.lemmas.List.Elements.{All-contains, filter_passes, Contains-append_left}
use Rattle.std.proofs.lemmas.List.Elements.{Contains-append_right}
use Rattle.acct_book.specs.Walk.{AreMembers}

-- ---- what passes the test

some_is : {A : Type 0} (x y : A) → Some x ≡ Some y → x ≡ y
some_is x y e = cc

first_at : {X : Type 0} (w v : X) (ws : List X) (b : Bool) → b ≡ true → w ≡ v
    → Contains (cond b (w ∷ ws) ws) v
first_at w v ws true e is = subst (λ x. Contains (w ∷ ws) x) is
    (Contains-append_left (w ∷ []) ws w (0, omega arith, refl))
first_at w v ws false e is = absurd (cc)

later_at : {X : Type 0} (w v : X) (ws : List X) (b : Bool) → Contains ws v
    → Contains (cond b (w ∷ ws) ws) v
later_at w v ws true h = Contains-append_right (w ∷ []) ws v h
later_at w v ws false h = h

found_at : {K X : Type 0} (test : K → Bool) (p : X → Bool) (k : K) (w v : X) (es : List (K × X))
    (b : Bool) → cond b (Some w) (lookup test es) ≡ Some v → p v ≡ true
    → (lookup test es ≡ Some v → Contains (filter p (values_of es)) v)
    → Contains (cond (p w) (w ∷ filter p (values_of es)) (filter p (values_of es))) v
found_at test p k w v es true is passes rest =
    let same : w ≡ v = some_is w v is in
    first_at w v (filter p (values_of es)) (p w) (ap p same ∙ passes) same
found_at test p k w v es false is passes rest = later_at w v (filter p (values_of es)) (p w)
    (rest is)

-- what a look-up finds is listed, if it passes
found_filter : {K X : Type 0} (test : K → Bool) (p : X → Bool) (v : X) (es : List (K × X))
    → lookup test es ≡ Some v → p v ≡ true → Contains (filter p (values_of es)) v
found_filter test p v [] is passes = absurd (cc)
found_filter test p v (e ∷ es) is passes = found_at test p e.0 e.1 v es (test e.0) is passes
    (λ h. found_filter test p v es h passes)

-- ---- the order

all_at : {X L : Type 0} (P : L → Type 0) (key : X → L) (v : X) (vs : List X) (b : Bool) → P (key v)
    → AllByRecursion P (map key vs) → AllByRecursion P (map key (cond b (v ∷ vs) vs))
all_at P key v vs true h rest = (h, rest)
all_at P key v vs false h rest = rest

all_filter : {X L : Type 0} (P : L → Type 0) (key : X → L) (p : X → Bool) (vs : List X)
    → AllByRecursion P (map key vs) → AllByRecursion P (map key (filter p vs))
all_filter P key p [] h = h
all_filter P key p (v ∷ vs) h = all_at P key v (filter p vs) (p v) h.0 (all_filter P key p vs h.1)

sorted_at : {X L : Type 0} (cmp : L → L → Ordering) (key : X → L) (v : X) (vs : List X) (b : Bool)
    → AllByRecursion (λ y. cmp (key v) y ≡ Less) (map key vs) → IsStrictlySortedBy cmp (map key vs)
    → IsStrictlySortedBy cmp (map key (cond b (v ∷ vs) vs))
unfolding IsStrictlySortedBy
sorted_at cmp key v vs true h rest = (h, rest)
sorted_at cmp key v vs false h rest = rest

sorted_filter : {X L : Type 0} (cmp : L → L → Ordering) (key : X → L) (p : X → Bool) (vs : List X)
    → IsStrictlySortedBy cmp (map key vs) → IsStrictlySortedBy cmp (map key (filter p vs))
unfolding IsStrictlySortedBy
sorted_filter cmp key p [] h = h
sorted_filter cmp key p (v ∷ vs) h = sorted_at cmp key v (filter p vs) (p v)
    (all_filter (λ y. cmp (key v) y ≡ Less) key p vs h.0) (sorted_filter cmp key p vs h.1)

all_map : {K L : Type 0} (P : L → Type 0) (f : K → L) (ks : List K)
    → AllByRecursion (λ k. P (f k)) ks → AllByRecursion P (map f ks)
all_map P f [] h = h
all_map P f (k ∷ ks) h = (h.0, all_map P f ks h.1)

sorted_map : {K L : Type 0} (cmp : L → L → Ordering) (f : K → L) (ks : List K)
    → IsStrictlySortedBy (λ a b. cmp (f a) (f b)) ks → IsStrictlySortedBy cmp (map f ks)
unfolding IsStrictlySortedBy
sorted_map cmp f [] h = h
sorted_map cmp f (k ∷ ks) h = (all_map (λ y. cmp (f k) y ≡ Less) f ks h.0, sorted_map cmp f ks h.1)

own_keys : {K L X : Type 0} (f : K → L) (key : X → L) (es : List (K × X))
    → All (λ e. key e.1 ≡ f e.0) es → map key (values_of es) ≡ map f (keys_of es)
own_keys f key [] own = refl
own_keys f key (e ∷ es) own = λ i. All-head (λ d. key d.1 ≡ f d.0) e es own i ∷ own_keys f key es
    (All-tail (λ d. key d.1 ≡ f d.0) e es own) i

-- The members of a map that pass a test, if each is under its own key.
pub members : {K L X : Type 0} (cmp : L → L → Ordering) (f : K → L) (key : X → L) (test : L → K
    → Bool) (p : X → Bool) (es : List (K × X))
    → All (λ e. lookup (test (f e.0)) es ≡ Some e.1) es → ((l : L) (x : X)
    → lookup (test l) es ≡ Some x → key x ≡ l) → IsStrictlySortedBy (λ a b. cmp (f a) (f b))
    (keys_of es)
    → AreMembers cmp key (λ l. lookup (test l) es) p (filter p (values_of es))
members cmp f key test p es found own ordered =
    let keys = own_keys f key es (All-weaker (λ e. lookup (test (f e.0)) es ≡ Some e.1)
    (λ e. key e.1 ≡ f e.0) (λ e h. own (f e.0) e.1 h) es found) in
    let stored = All-map (λ x. lookup (test (key x)) es ≡ Some x) (λ e. e.1) es
    (All-weaker (λ e. lookup (test (f e.0)) es ≡ Some e.1)
    (λ e. lookup (test (key e.1)) es ≡ Some e.1) (λ e h. ap (λ l. lookup (test l) es)
    (own (f e.0) e.1 h) ∙ h) es found) in
    record {
      in_order = sorted_filter cmp key p (values_of es) (subst (IsStrictlySortedBy cmp) (sym keys)
          (sorted_map cmp f (keys_of es) ordered));
      each = λ v. (
        (λ h. (
          All-contains (λ x. lookup (test (key x)) es ≡ Some x) (filter p (values_of es)) v
              (All-filter p (λ x. lookup (test (key x)) es ≡ Some x) (values_of es) stored) h,
          All-contains (λ x. p x ≡ true) (filter p (values_of es)) v
              (filter_passes p (values_of es)) h,
        )),
        (λ h. found_filter (test (key v)) p v es h.0 h.1),
      );
    }
