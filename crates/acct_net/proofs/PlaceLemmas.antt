-- Who is found at a place.
use Rattle.std.proofs.Common.{◌≡◌, ◌<◌, ◌≤◌, ℕ, List, Option, Some, length, slice_get, slice_set, rules}
use Rattle.std.proofs.Common.{None, true, refl, sym, ap, ◌∙◌, ◌∷◌, [], zero, suc, subst}
use Rattle.std.proofs.lemmas.Option.{slice_get_read, slice_get-get_or, slice_get_within}
use Rattle.std.proofs.lemmas.Option.{get_or_from_slice_get}
use Rattle.std.proofs.lemmas.List.Folds.{list_any_at}
use Rattle.std.specs.List.{HoldsAt, position}
use Rattle.std.specs.Prelude.{MatchOption, slice_index_or}
use Rattle.acct_net_callers.specs.declared.caller.Caller.{Caller}
use Rattle.acct_net.specs.inner.Places.{HasReady, IsReadyAt, has_ready}
use Rattle.acct_net.proofs.SearchLemmas.{none_passes}

-- who was taken from a place, or is seen there, was there
pub found : {C M : Type 0} (now : M → Option C) (got : Option M) (slot : M) (taken : Option C)
    (caller : C) (places : List (Option C)) (place : ℕ) → got ≡ Some slot
    → MatchOption got (length places ≤ place)
    (λ x. (place < length places) × HoldsAt (λ y. now x ≡ y) places place)
    → taken ≡ now slot → taken ≡ Some caller → slice_get places place ≡ Some (Some caller)
found now got slot taken caller places place is there value some =
    let at = subst (λ o. MatchOption o (length places ≤ place)
    (λ x. (place < length places) × HoldsAt (λ y. now x ≡ y) places place)) is there in
    slice_get_read places (length places) place (Some caller) refl at.0
    (sym some ∙ value ∙ at.1 (Some caller))

-- who was put at a place is there
pub put : {C : Type 0} (places : List C) (place : ℕ) (caller : C) → place < length places
    → slice_get (slice_set places place caller) place ≡ Some caller
put places place caller within = search (rules, slice_get_read)

-- whoever was put at a place twice is there
pub put_again : {C : Type 0} (places : List C) (place : ℕ) (first caller : C)
    → slice_set (slice_set places place first) place caller ≡ slice_set places place caller
put_again [] place first caller = refl
put_again (x ∷ xs) zero first caller = refl
put_again (x ∷ xs) (suc place) first caller = ap (λ l. x ∷ l) (put_again xs place first caller)

module _ {S : Type 0} where
  at : (places : List (Option (Caller S))) (place : ℕ) (slot : Option (Caller S))
      → slice_get places place ≡ Some slot → has_ready slot ≡ true → IsReadyAt places place
  at places place None is ready = absurd (cc ready)
  at places place (Some caller) is ready = (caller, is, ready)

  -- where somebody is ready, there is a caller
  pub ready_at : (places : List (Option (Caller S))) (place : ℕ) → place < length places
      → has_ready (slice_index_or places place None) ≡ true → IsReadyAt places place
  ready_at places place within ready =
      at places place (slice_index_or places place None) (slice_get-get_or places place None within)
      ready

  -- if no place is the first whose caller is ready, nobody is
  pub no_ready : (places : List (Option (Caller S))) → position has_ready places ≡ None
      → ¬ HasReady places
  no_ready places none = λ (place, there).
      cc (sym (none_passes has_ready places none)
      ∙ list_any_at has_ready places place None (slice_get_within places place _ there.1)
      (ap has_ready (get_or_from_slice_get places place _ None there.1) ∙ there.2))
