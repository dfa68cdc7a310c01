-- Header fields by name, one more at a time.
use Rattle.std.proofs.Common.{◌≡◌, ◌≢◌, Option, Some, arith, length-append, ℕ, ◌+◌, ◌<◌}
use Rattle.std.proofs.Common.{Bool, true, false, cond, List, [], ◌∷◌, ◌++◌, length, take, map}
use Rattle.std.proofs.Common.{get_or, refl, ap, ◌∙◌}
use Rattle.std.proofs.lemmas.List.{take_more, map-append, append-nil}
use Rattle.std.proofs.lemmas.List.Elements.{filter-append}
use Rattle.std.specs.List.{filter, slice_get}
use Rattle.acct_desk.specs.Request.{is_named, values_of}

one_value : (named : Bool) (value : List ℕ × List ℕ)
    → map (λ (f : List ℕ × List ℕ). f.1) (cond named (value ∷ []) []) ≡ cond named (value.1 ∷ []) []
one_value true value = refl
one_value false value = refl

pub values_of-push : (name : List ℕ) (fields : List (List ℕ × List ℕ)) (field : List ℕ × List ℕ)
    → values_of name (fields ++ field ∷ [])
    ≡ values_of name fields ++ cond (is_named name field) (field.1 ∷ []) []
values_of-push name fields field =
    ap (map (λ (f : List ℕ × List ℕ). f.1)) (filter-append (is_named name) fields (field ∷ []))
    ∙ map-append (λ (f : List ℕ × List ℕ). f.1) (filter (is_named name) fields)
    (cond (is_named name field) (field ∷ []) [])
    ∙ ap (λ vs. values_of name fields ++ vs) (one_value (is_named name field) field)

pub values_of-more : {X : Type 0} (name : List ℕ) (view : X
    → List ℕ × List ℕ) (xs : List X) (i : ℕ) (d : X) → i < length xs
    → values_of name (map view (take (i + 1) xs))
    ≡ values_of name (map view (take i xs)) ++ cond (is_named name (view (get_or xs i d)))
    ((view (get_or xs i d)).1 ∷ []) []
values_of-more name view xs i d h =
    ap (λ ys. values_of name (map view ys)) (take_more xs i d h)
    ∙ ap (values_of name) (map-append view (take i xs) (get_or xs i d ∷ []))
    ∙ values_of-push name (map view (take i xs)) (view (get_or xs i d))

-- ---- one more field: the first value so far, and the number of values

pub other_field : (named : Bool) (o : Option (List ℕ)) (n : ℕ) (vs ws : List (List ℕ)) (v : List ℕ)
    → named ≡ false → ws ≡ vs ++ cond named (v ∷ []) [] → o ≡ slice_get vs 0 → n ≡ length vs
    → (o ≡ slice_get ws 0) × (n ≡ length ws)
other_field true o n vs ws v is more first count = absurd (cc)
other_field false o n vs ws v is more first count = rw (more, append-nil) (first, count)

pub first_field : (named : Bool) (n : ℕ) (vs ws : List (List ℕ)) (v : List ℕ)
    → named ≡ true → n ≡ 0 → ws ≡ vs ++ cond named (v ∷ []) [] → n ≡ length vs
    → (Some v ≡ slice_get ws 0) × (n + 1 ≡ length ws)
first_field false n vs ws v is none more count = absurd (cc)
first_field true n [] ws v is none more count = rw more (refl, rw none refl)
first_field true n (x ∷ vs) ws v is none more count = absurd (omega arith)

pub later_field : (named : Bool) (o : Option (List ℕ)) (n : ℕ) (vs ws : List (List ℕ)) (v : List ℕ)
    → named ≡ true → n ≢ 0 → ws ≡ vs ++ cond named (v ∷ []) [] → o ≡ slice_get vs 0 → n ≡ length vs
    → (o ≡ slice_get ws 0) × (n + 1 ≡ length ws)
later_field false o n vs ws v is some more first count = absurd (cc)
later_field true o n [] ws v is some more first count = absurd (some count)
later_field true o n (x ∷ vs) ws v is some more first count =
    rw more (first, rw length-append (omega arith))
