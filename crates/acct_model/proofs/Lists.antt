-- Which elements lists have: mapped, filtered and tested lists.
use Rattle.std.proofs.Common.{◌≡◌, ◌<◌, ◌⊎◌, inl, inr, Bool, true, false, cond, ◌||◌, List, [], ◌∷◌}
use Rattle.std.proofs.Common.{map, refl, sym, ◌∙◌, ap, subst, arith, true≢false, take, get_or}
use Rattle.std.proofs.Common.{ℕ, ◌+◌, length}
use Rattle.std.proofs.lemmas.List.Elements.{Contains-append_left, Contains-append_right}
use Rattle.std.proofs.lemmas.List.Elements.{Contains-append_cases, Contains-push_cases, All-weaker}
use Rattle.std.proofs.lemmas.List.Elements.{All-contains_itself, All-push}
use Rattle.std.proofs.lemmas.List.{take_more}
use Rattle.std.specs.Prelude.{Contains, All, None, Some, is_some}
use Rattle.std.specs.List.{list_any, filter, find, Any}

pub here : {X : Type 0} (x : X) (xs : List X) → Contains (x ∷ xs) x
here x xs = Contains-append_left (x ∷ []) xs x (0, omega arith, refl)

pub deeper : {X : Type 0} (x y : X) (xs : List X) → Contains xs y → Contains (x ∷ xs) y
deeper x y xs h = Contains-append_right (x ∷ []) xs y h

pub nowhere : {X : Type 0} (x : X) → Contains [] x → ⊥
nowhere x h = let small : h.0 < 0 = h.1 in omega arith

-- an element is the first one or a later one
pub front_or_behind : {X : Type 0} (x y : X) (xs : List X) → Contains (x ∷ xs) y → (x ≡ y)
    ⊎ Contains xs y
front_or_behind x y xs h = elim (Contains-append_cases (x ∷ []) xs y h) [
  | inl only ↦ elim (Contains-push_cases [] x y only) [
    | inl none ↦
        absurd (nowhere y none)
    | inr is ↦ inl is
  ]
  | inr behind ↦ inr behind
]

-- an element of a mapped list is mapped from one of the list
pub from_map : {X Y : Type 0} (f : X → Y) (xs : List X) (y : Y) → Contains (map f xs) y → (x : X)
    × Contains xs x × (f x ≡ y)
from_map f [] y h = absurd (nowhere y h)
from_map f (x ∷ xs) y h = elim (front_or_behind (f x) y (map f xs) h) [
  | inl is ↦ (x, here x xs, is)
  | inr behind ↦ let rest = from_map f xs y behind in (rest.0, deeper x rest.0 xs rest.1, rest.2)
]

pub to_map : {X Y : Type 0} (f : X → Y) (xs : List X) (x : X) → Contains xs x
    → Contains (map f xs) (f x)
to_map f [] x h = absurd (nowhere x h)
to_map f (z ∷ xs) x h = elim (front_or_behind z x xs h) [
  | inl is ↦ subst (λ v. Contains (f z ∷ map f xs) v) (ap f is) (here (f z) (map f xs))
  | inr behind ↦ deeper (f z) (f x) (map f xs) (to_map f xs x behind)
]

pub from_filter : {X : Type 0} (p : X → Bool) (xs : List X) (x : X) → Contains (filter p xs) x
    → Contains xs x × (p x ≡ true)
from_filter p [] x h = absurd (nowhere x h)
from_filter p (z ∷ xs) x h =
    elim (p z) as (λ b. p z ≡ b → Contains (cond b (z ∷ filter p xs) (filter p xs)) x
    → Contains (z ∷ xs) x × (p x ≡ true)) [
      | true ↦ λ e k. elim (front_or_behind z x (filter p xs) k) [
        | inl is ↦ (subst (λ v. Contains (z ∷ xs) v) is (here z xs), ap p (sym is) ∙ e)
        | inr behind ↦ let rest = from_filter p xs x behind in (deeper z x xs rest.0, rest.1)
      ]
      | false ↦ λ e k. let rest = from_filter p xs x k in (deeper z x xs rest.0, rest.1)
    ] refl h

pub to_filter : {X : Type 0} (p : X → Bool) (xs : List X) (x : X) → Contains xs x → p x ≡ true
    → Contains (filter p xs) x
to_filter p [] x h e = absurd (nowhere x h)
to_filter p (z ∷ xs) x h e =
    elim (front_or_behind z x xs h) [
      | inl is ↦ let kept : p z ≡ true = ap p is ∙ e in
          subst (λ b. Contains (cond b (z ∷ filter p xs) (filter p xs)) x) (sym kept)
          (subst (λ v. Contains (z ∷ filter p xs) v) is (here z (filter p xs)))
      | inr behind ↦ let rest = to_filter p xs x behind e in
          elim (p z) as (λ b. Contains (cond b (z ∷ filter p xs) (filter p xs)) x) [
            | true ↦
                deeper z x (filter p xs) rest
            | false ↦ rest
          ]
    ]

pub none_same : {X : Type 0} (same : X → X → Bool) (x : X) (xs : List X)
    → list_any (same x) xs ≡ false → (y : X) → Contains xs y → same x y ≡ false
none_same same x [] e y h = absurd (nowhere y h)
none_same same x (z ∷ xs) e y h =
    let both = or_false (same x z) (list_any (same x) xs) e in
    elim (front_or_behind z y xs h) [
      | inl is ↦ ap (same x) (sym is)
          ∙ both.0
      | inr behind ↦ none_same same x xs both.1 y behind
    ]
  where
    or_false : (a b : Bool) → (a || b) ≡ false → (a ≡ false) × (b ≡ false)
    or_false true b h = absurd (true≢false h)
    or_false false b h = (refl, h)

pub some_same : {X : Type 0} (same : X → X → Bool) (x y : X) (xs : List X) → Contains xs y
    → same x y ≡ true → list_any (same x) xs ≡ true
some_same same x y [] h e = absurd (nowhere y h)
some_same same x y (z ∷ xs) h e =
    elim (front_or_behind z y xs h) [
      | inl is ↦ ap (λ v. same x v || list_any (same x) xs) is
          ∙ ap (λ b. b || list_any (same x) xs) e
      | inr behind ↦ elim (same x z) as (λ b. (b || list_any (same x) xs) ≡ true) [
        | true ↦
            refl
        | false ↦ some_same same x y xs behind e
      ]
    ]

pub found_same : {X : Type 0} (p : X → Bool) (xs : List X) → list_any p xs ≡ true → (y : X)
    × Contains xs y × (p y ≡ true)
found_same p [] e = absurd (true≢false (sym e))
found_same p (z ∷ xs) e =
    elim (p z) as (λ b. p z ≡ b → (b || list_any p xs) ≡ true → (y : _) × Contains (z ∷ xs) y
    × (p y ≡ true)) [
      | true ↦ λ is h. (z, here z xs, is)
      | false ↦ λ is h. let rest = found_same p xs h in (rest.0, deeper z rest.0 xs rest.1, rest.2)
    ] refl e

-- what holds of each element that a list has, holds of all
pub all_listed : {X : Type 0} (P : X → Type 0) (xs : List X) → ((x : X) → Contains xs x → P x)
    → All P xs
all_listed P xs each = All-weaker (Contains xs) P each xs (All-contains_itself xs)

-- what holds of the elements before a place and of the one there, holds of all up to it
pub all_more : {X : Type 0} (P : X → Type 0) (xs : List X) (at : ℕ) (x : X) → at < length xs
    → x ≡ get_or xs at x → All P (take at xs) → P x → All P (take (at + 1) xs)
all_more P xs at x within is all holds =
    subst (All P) (sym (take_more xs at x within))
    (All-push P (take at xs) (get_or xs at x) all (subst P is holds))

pub any_listed : {X : Type 0} (P : X → Type 0) (xs : List X) (x : X) → Contains xs x → P x
    → Any P xs
any_listed P xs x there holds = (there.0, x, there.1, there.2, holds)

pub listed_any : {X : Type 0} (P : X → Type 0) (xs : List X) → Any P xs → (x : X) × Contains xs x
    × P x
listed_any P xs (k, x, within, is, holds) = (x, (k, within, is), holds)

-- ---- what `find` finds

pub is_some-find : {X : Type 0} (p : X → Bool) (xs : List X) → is_some (find p xs) ≡ list_any p xs
is_some-find p [] = refl
is_some-find p (x ∷ xs) =
    elim (p x) as (λ b. is_some (cond b (Some x) (find p xs)) ≡ (b || list_any p xs)) [
      | true ↦ refl
      | false ↦ is_some-find p xs
    ]

pub find-none : {X : Type 0} (p : X → Bool) (xs : List X) → find p xs ≡ None → list_any p xs ≡ false
find-none p [] e = refl
find-none p (x ∷ xs) e =
    elim (p x) as (λ b. cond b (Some x) (find p xs) ≡ None → (b || list_any p xs) ≡ false) [
      | true ↦ λ h. cc
      | false ↦ λ h. find-none p xs h
    ] e

-- what is found is in the list and passes
pub find-some : {X : Type 0} (p : X → Bool) (xs : List X) (found : X) → find p xs ≡ Some found
    → Contains xs found × (p found ≡ true)
find-some p [] found e = cc
find-some p (x ∷ xs) found e =
    elim (p x) as (λ b. p x ≡ b → cond b (Some x) (find p xs) ≡ Some found → Contains (x ∷ xs) found
    × (p found ≡ true)) [
      | true ↦ λ is h. let same : x ≡ found =
          cc in (subst (λ v. Contains (x ∷ xs) v) same (here x xs), ap p (sym same) ∙ is)
      | false ↦ λ is h. let rest = find-some p xs found h in (deeper x found xs rest.0, rest.1)
    ] refl e
