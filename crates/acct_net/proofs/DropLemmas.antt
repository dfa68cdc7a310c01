-- Of the callers before a place, who is the first to be dropped for another one: one step further.
use Rattle.std.proofs.Common.{◌≡◌, ◌≤◌, ◌<◌, ◌+◌, ℕ, List, Option, Some, None, length, refl, sym, ap}
use Rattle.std.proofs.Common.{◌∙◌, subst, arith, ⊎_elim}
use Rattle.std.proofs.lemmas.Bool.{cases_lt}
use Rattle.std.proofs.lemmas.List.{get_or_default}
use Rattle.std.specs.Prelude.{IfSome, MatchOption, slice_index_or}
use Rattle.std.specs.Time.{instant_nanos}
use Rattle.std.specs.declared.time.Instant.{Instant}
use Rattle.acct_net_callers.specs.declared.caller.Caller.{Caller}
use Rattle.acct_net.specs.inner.Places.{HasNoneToDrop, IsDroppable, IsEarlier, IsFirstToDrop}
use Rattle.acct_net.specs.inner.Places.{accepted_at}

module _ {S : Type 0} (places : List (Option (Caller S))) (now : Instant) where
  -- who is the first to be dropped before the end, and when he was accepted
  abbrev pub IsFirst : ℕ → (ℕ × Instant) → Type 0
  IsFirst end pair = IsFirstToDrop places now end pair.0
      × ((d : Option (Caller S)) → instant_nanos pair.1 ≡ accepted_at (slice_index_or places pair.0 d))

  -- what is known before the end
  abbrev pub Knows : ℕ → Option (ℕ × Instant) → Type 0
  Knows end first = MatchOption first (HasNoneToDrop places now end) (IsFirst end)

  module _ (place : ℕ) (slot : Option (Caller S)) (within : place < length places)
      (there : slot ≡ slice_index_or places place slot) where
    here : (d : Option (Caller S)) → slice_index_or places place d ≡ slot
    here d = get_or_default places place d slot within ∙ sym there

    -- what holds before a place, and at it, holds before the next one
    more : (P : Option (Caller S) → Type 0)
        → ((other : ℕ) (d : Option (Caller S)) → other < place → P (slice_index_or places other d))
        → P slot → (other : ℕ) (d : Option (Caller S)) → other < place + 1
        → P (slice_index_or places other d)
    more P before at other d lt =
        ⊎_elim (λ below. before other d below) (λ above.
        let e : other ≡ place = omega (arith, lt, above) in
        subst P (sym (ap (λ n. slice_index_or places n d) e ∙ here d)) at)
        (cases_lt other place)

    -- nobody here may be dropped
    pub none_step : ¬ IsDroppable now slot → (first : Option (ℕ × Instant)) → Knows place first
        → Knows (place + 1) first
    none_step not None known = more (λ s. ¬ IsDroppable now s) known not
    none_step not (Some one) known = (
      record {
        within = known.0.within;
        droppable = known.0.droppable;
        first = λ other d e lt is.
            more (λ s. IsDroppable now s → accepted_at (slice_index_or places one.0 e) ≤ accepted_at s)
            (λ o f l. known.0.first o f e l) (λ here. absurd (not here)) other d lt is;
      },
      known.1,
    )

    this : IsDroppable now slot → ((other : ℕ) (d : Option (Caller S)) → other < place
        → IsDroppable now (slice_index_or places other d)
        → accepted_at slot ≤ accepted_at (slice_index_or places other d))
        → IsFirstToDrop places now (place + 1) place
    this droppable before = record {
      within = within;
      droppable = λ d. subst (IsDroppable now) (sym (here d)) droppable;
      first = λ other d e lt is.
          subst (λ s. accepted_at s ≤ accepted_at (slice_index_or places other d)) (sym (here e))
          (more (λ s. IsDroppable now s → accepted_at slot ≤ accepted_at s) before
          (λ same. omega arith) other d lt is);
    }

    -- somebody here may be dropped, and the earlier one stays
    pub some_step : IsDroppable now slot → (since : Instant)
        → instant_nanos since ≡ accepted_at slot → (first : Option (ℕ × Instant))
        → (is : ℕ × Instant) → (first ≡ None → is ≡ (place, since))
        → IfSome first (λ one. IsEarlier one (place, since) is) → Knows place first
        → IsFirst (place + 1) is
    some_step droppable since at None is none both known =
        subst (IsFirst (place + 1)) (sym (none refl)) (
          this droppable (λ o d l is. absurd (known o d l is)),
          λ d. at ∙ ap accepted_at (sym (here d)),
        )
    some_step droppable since at (Some one) is none both known =
        ⊎_elim (λ kept. subst (IsFirst (place + 1)) (sym kept.0) (
          record {
            within = known.0.within;
            droppable = known.0.droppable;
            first = λ other d e lt is.
                more (λ s. IsDroppable now s
                → accepted_at (slice_index_or places one.0 e) ≤ accepted_at s)
                (λ o f l. known.0.first o f e l)
                (λ here. omega (arith, kept.1, known.1 e, at)) other d lt is;
          },
          known.1,
        )) (λ new. subst (IsFirst (place + 1)) (sym new.0) (
          this droppable (λ o d l is.
              omega (arith, new.1, at, known.1 None, known.0.first o d None l is)),
          λ d. at ∙ ap accepted_at (sym (here d)),
        )) both
