-- The first fault of a list, from a place on and if there is none.
use Rattle.std.proofs.Common.{◌≡◌, ℕ, ◌+◌, ◌<◌, ◌≤◌, inl, inr, Option, None, Some, List, [], ◌∷◌}
use Rattle.std.proofs.Common.{◌++◌, length, take, drop, get_or, refl, sym, ◌∙◌, ap, subst}
use Rattle.std.proofs.lemmas.List.{drop_more, take_more, drop_all, append-nil, append_assoc}
use Rattle.std.specs.Prelude.{Contains}
use Rattle.std.specs.Option.{option_or}
use Rattle.acct_model.specs.Faults.{first_fault, first_fault_after}
use Rattle.acct_model.proofs.Lists.{nowhere, front_or_behind}

-- of two options that are none in turn, each is none
pub first_none : {E : Type 0} (a b : Option E) → option_or a b ≡ None → a ≡ None
first_none None b e = refl
first_none (Some x) b e = cc

pub second_none : {E : Type 0} (a b : Option E) → option_or a b ≡ None → b ≡ None
second_none None b e = e
second_none (Some x) b e = cc

module _ {X E : Type 0} (fault : List X → X → Option E) where
  -- the first fault from a place on
  abbrev pub faults_from : ℕ → List X → Option E
  faults_from i xs = first_fault_after fault (take i xs) (drop i xs)

  pub faults_from-more : (xs : List X) (i : ℕ) (x : X) → i < length xs → x ≡ get_or xs i x
      → faults_from i xs ≡ option_or (fault (take i xs) x) (faults_from (i + 1) xs)
  faults_from-more xs i x within is =
      let rest : drop i xs ≡ x ∷ drop (i + 1) xs =
      drop_more xs i x within ∙ ap (λ y. y ∷ drop (i + 1) xs) (sym is) in
      let front : take (i + 1) xs ≡ take i xs ++ x ∷ [] =
      take_more xs i x within ∙ ap (λ y. take i xs ++ y ∷ []) (sym is) in
      ap (first_fault_after fault (take i xs)) rest
      ∙ ap (λ ys. option_or (fault (take i xs) x) (first_fault_after fault ys (drop (i + 1) xs)))
      (sym front)

  pub faults_from-all : (xs : List X) (i : ℕ) → length xs ≤ i → faults_from i xs ≡ None
  faults_from-all xs i all = ap (first_fault_after fault (take i xs)) (drop_all i xs all)

  -- if there is no fault, and one more element after all has none, there is still none
  faultless_after : (earlier xs : List X) (x : X) → first_fault_after fault earlier xs ≡ None
      → fault (earlier ++ xs) x ≡ None → first_fault_after fault earlier (xs ++ x ∷ []) ≡ None
  faultless_after earlier [] x none alone =
      ap (λ o. option_or o None) (ap (λ front. fault front x) (sym (append-nil earlier)) ∙ alone)
  faultless_after earlier (y ∷ xs) x none alone =
      ap (λ o. option_or o (first_fault_after fault (earlier ++ y ∷ []) (xs ++ x ∷ [])))
      (first_none (fault earlier y) (first_fault_after fault (earlier ++ y ∷ []) xs) none)
      ∙ faultless_after (earlier ++ y ∷ []) xs x
      (second_none (fault earlier y) (first_fault_after fault (earlier ++ y ∷ []) xs) none)
      (ap (λ front. fault front x) (append_assoc earlier (y ∷ []) xs) ∙ alone)

  pub faultless_more : (xs : List X) (x : X) → first_fault fault xs ≡ None → fault xs x ≡ None
      → first_fault fault (xs ++ x ∷ []) ≡ None
  faultless_more xs x none alone = faultless_after [] xs x none alone

  -- if there is no fault, each element passes, judged by some that precede it
  pub passed : (earlier xs : List X) → first_fault_after fault earlier xs ≡ None → (x : X)
      → Contains xs x
      → (before : List X) × (fault before x ≡ None)
  passed earlier [] none x there = absurd (nowhere x there)
  passed earlier (y ∷ xs) none x there =
      let here_none = first_none (fault earlier y)
      (first_fault_after fault (earlier ++ y ∷ []) xs) none in
      let rest_none = second_none (fault earlier y)
      (first_fault_after fault (earlier ++ y ∷ []) xs) none in
      elim (front_or_behind y x xs there) [
        | inl is ↦ (earlier, subst (λ v. fault earlier v ≡ None) is here_none)
        | inr later ↦ passed (earlier ++ y ∷ []) xs rest_none x later
      ]
