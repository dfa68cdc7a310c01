-- Searches, by membership.
use Rattle.std.proofs.Common.{◌≡◌, ◌≢◌, ◌⊎◌, ℕ, length, arith, inl, inr, List, [], ◌∷◌, Bool, true}
use Rattle.std.proofs.Common.{false, cond, Some, None, Option, find, option_map, refl, sym, ap, ◌∙◌}
use Rattle.std.proofs.Common.{true≢false, ◌≤◌, get_or}
use Rattle.sqlite_rules.specs.Lists.{Has}

pub not_true : (b : Bool) → (b ≡ true → ⊥) → b ≡ false
not_true true h = absurd (h refl)
not_true false h = refl

pub found_is : {X : Type 0} (p : X → Bool) (xs : List X) (r : X) → Has xs r → p r ≡ true
    → ((s : X) → Has xs s → p s ≡ true → s ≡ r) → find p xs ≡ Some r
found_is p [] r h passes only = absurd h
found_is p (x ∷ xs) r h passes only = go (p x) refl (λ later. found_is p xs r later passes
    (λ s k. only s (inr k)))
  where
    go : (b : Bool) → p x ≡ b → (Has xs r → find p xs ≡ Some r) → cond b (Some x) (find p xs)
        ≡ Some r
    go true is rest = ap Some (only x (inl refl) is)
    go false is rest = elim h [
      | inl same ↦ absurd (true≢false (sym passes ∙ (ap p same ∙ is)))
      | inr
          later ↦ rest later
    ]

pub none_is : {X : Type 0} (p : X → Bool) (xs : List X) → ((s : X) → Has xs s → p s ≡ false)
    → find p xs ≡ None
none_is p [] none = refl
none_is p (x ∷ xs) none = go (p x) (none x (inl refl)) (none_is p xs (λ s k. none s (inr k)))
  where
    go : (b : Bool) → b ≡ false → find p xs ≡ None → cond b (Some x) (find p xs) ≡ None
    go true is rest = absurd (true≢false is)
    go false is rest = rest

pub looked : {X : Type 0} (p : X → Bool) (xs : List X) → ((x : X) × Has xs x × (p x ≡ true))
    ⊎ ((x : X) → Has xs x → p x ≡ false)
looked p [] = inr (λ x none. absurd none)
looked p (x ∷ xs) = go (p x) refl (looked p xs)
  where
    go : (b : Bool) → p x ≡ b → ((y : _) × Has xs y × (p y ≡ true))
        ⊎ ((y : _) → Has xs y → p y ≡ false) → ((y : _) × Has (x ∷ xs) y × (p y ≡ true))
        ⊎ ((y : _) → Has (x ∷ xs) y → p y ≡ false)
    go true is rest = inl (x, inl refl, is)
    go false is (inl found) = inl (found.0, inr found.1, found.2)
    go false is (inr none) = inr (λ y h. elim h [
      | inl same ↦ ap p same
          ∙ is
      | inr later ↦ none y later
    ])

-- what was found passes, and is there
pub find_has : {X : Type 0} (p : X → Bool) (xs : List X) (r : X) → find p xs ≡ Some r → Has xs r
    × (p r ≡ true)
find_has p [] r h = absurd (cc)
find_has p (x ∷ xs) r h = go (p x) refl h (find_has p xs r)
  where
    go : (b : Bool) → p x ≡ b → cond b (Some x) (find p xs) ≡ Some r
        → (find p xs ≡ Some r → Has xs r × (p r ≡ true)) → Has (x ∷ xs) r × (p r ≡ true)
    go true is h rest = let same : x ≡ r = cc in (inl (sym same), ap p (sym same) ∙ is)
    go false is h rest = (inr (rest h).0, (rest h).1)

-- if nothing was found, no member passes
pub none_has : {X : Type 0} (p : X → Bool) (xs : List X) → find p xs ≡ None → (x : X) → Has xs x
    → p x ≡ false
none_has p [] none x h = absurd h
none_has p (y ∷ xs) none x h = go (p y) refl none (none_has p xs)
  where
    go : (b : Bool) → p y ≡ b → cond b (Some y) (find p xs) ≡ None
        → (find p xs ≡ None → (z : _) → Has xs z → p z ≡ false) → p x ≡ false
    go true is unfound rest = absurd cc
    go false is unfound rest = elim h [
      | inl same ↦ ap p same
          ∙ is
      | inr later ↦ rest unfound x later
    ]

abbrev pub IsOne : {X : Type 0} → (X → Bool) → List X → Type 0
IsOne {X} p xs = (r s : X) → Has xs r → Has xs s → p r ≡ true → p s ≡ true → r ≡ s

-- the members are those of before, each as f makes it
pub record IsMapped {X : Type 0} (f : X → X) (old new : List X) : Type 0 where
  pub back : (y : X) → Has new y → (r : X) × Has old r × (y ≡ f r)
  pub forth : (r : X) → Has old r → Has new (f r)

pub find_mapped : {X : Type 0} (p : X → Bool) (f : X → X) (old new : List X) → IsOne p old
    → ((r : X) → Has old r → p (f r) ≡ p r) → IsMapped f old new
    → find p new ≡ option_map f (find p old)
find_mapped p f old new one keeps made = elim (looked p old) [
  | inl r ↦
      found_is p new (f r.0) (made.forth r.0 r.1) (keeps r.0 r.1 ∙ r.2) (λ s h passes.
      let b = made.back s h in
      b.2 ∙ ap f (one b.0 r.0 b.1 r.1 (sym (keeps b.0 b.1) ∙ (ap p (sym b.2) ∙ passes)) r.2))
      ∙ ap (option_map f) (sym (found_is p old r.0 r.1 r.2
      (λ s h passes. one s r.0 h r.1 passes r.2)))
  | inr none ↦
      none_is p new (λ s h. let b = made.back s h in ap p b.2 ∙ (keeps b.0 b.1 ∙ none b.0 b.1))
      ∙ ap (option_map f) (sym (none_is p old none))
]

-- the members are those of before that are not gone
pub record IsLeft {X : Type 0} (gone : X → Bool) (old new : List X) : Type 0 where
  pub back : (y : X) → Has new y → Has old y × (gone y ≡ false)
  pub forth : (y : X) → Has old y → gone y ≡ false → Has new y

-- what is not gone is found as before
pub find_left : {X : Type 0} (p gone : X → Bool) (old new : List X) → IsOne p old
    → ((r : X) → Has old r → p r ≡ true → gone r ≡ false) → IsLeft gone old new
    → find p new ≡ find p old
find_left p gone old new one stays left = elim (looked p old) [
  | inl r ↦
      found_is p new r.0 (left.forth r.0 r.1 (stays r.0 r.1 r.2)) r.2 (λ s h passes.
      one s r.0 (left.back s h).0 r.1 passes r.2)
      ∙ sym (found_is p old r.0 r.1 r.2 (λ s h passes. one s r.0 h r.1 passes r.2))
  | inr none ↦ none_is p new (λ s h. none s (left.back s h).0) ∙ sym (none_is p old none)
]

-- one member was added to those of before
pub record IsAdded {X : Type 0} (put : X) (old new : List X) : Type 0 where
  pub back : (y : X) → Has new y → (y ≡ put) ⊎ Has old y
  pub forth : (y : X) → Has old y → Has new y
  pub adds : Has new put

pub find_added : {X : Type 0} (p : X → Bool) (put : X) (old new : List X) → IsOne p old
    → (p put ≡ true → (r : X) → Has old r → p r ≡ false) → IsAdded put old new
    → find p new ≡ cond (p put) (Some put) (find p old)
find_added p put old new one fresh made = go (p put) refl
  where
    go : (b : Bool) → p put ≡ b → find p new ≡ cond b (Some put) (find p old)
    go true is = found_is p new put made.adds is (λ s h passes. elim (made.back s h)
        [ inl same ↦ same | inr was ↦ absurd (true≢false (sym passes ∙ fresh is s was)) ])
    go false is = elim (looked p old) [
      | inl r ↦
          found_is p new r.0 (made.forth r.0 r.1) r.2 (λ s h passes. elim (made.back s h) [
            | inl same ↦ absurd (true≢false (sym passes ∙ (ap p same ∙ is)))
            | inr was ↦ one s r.0
                was r.1 passes r.2
          ])
          ∙ sym (found_is p old r.0 r.1 r.2 (λ s h passes. one s r.0 h r.1 passes r.2))
      | inr none ↦
          none_is p new (λ s h. elim (made.back s h) [
            | inl same ↦ ap p same
                ∙ is
            | inr was ↦ none s was
          ])
          ∙ sym (none_is p old none)
    ]

pub unchanged : {X : Type 0} (f : X → X) (o : Option X) → ((x : X) → o ≡ Some x → f x ≡ x)
    → option_map f o ≡ o
unchanged f None h = refl
unchanged f (Some x) h = ap Some (h x refl)

-- a count of rows, and the rows that were counted
pub none_shown : {X : Type 0} (rows : List X) (count : ℕ) → count ≡ length rows → count ≡ 0
    → (row : X) → Has rows row → ⊥
none_shown [] count is nothing row h = h
none_shown (x ∷ more) count is nothing row h = omega (arith, nothing, is)

pub some_shown : {X : Type 0} (rows : List X) (count : ℕ) → count ≡ length rows → count ≢ 0
    → (row : X) × Has rows row
some_shown [] count is some = absurd (some is)
some_shown (row ∷ more) count is some = (row, inl refl)

-- ---- a list of one

pub alone : {X : Type 0} (xs : List X) (x : X) → 1 ≤ length xs → length xs ≤ 1 → x ≡ get_or xs 0 x
    → xs ≡ x ∷ []
alone [] x some one is = absurd (omega arith)
alone (y ∷ []) x some one is = ap (λ z. z ∷ []) (sym is)
alone (y ∷ z ∷ more) x some one is = absurd (omega arith)
