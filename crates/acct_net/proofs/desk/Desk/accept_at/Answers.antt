use Rattle.std.proofs.Common.{◌≡◌, Some, None, inl, inr, ap, subst, sym, ◌∙◌}
use Rattle.std.specs.Prelude.{◌⊎◌, ◌≢◌, Result, Ok, Err, OnOk, IsOk, refl, slice_get, slice_set}
use Rattle.acct_net.proofs.PlaceLemmas.{put, put_again}
use Rattle.acct_net.proofs.desk.Desk.accept_at.Goals as goal

if_ok : {T E P : Type 0} (r : Result T E) → (IsOk r → P) → OnOk r P
if_ok (Ok done) so = so refl
if_ok (Err error) so = tt

-- it is none of two others
neither : {K : Type 0} (none one other k : K) → none ≢ one → none ≢ other → k ≡ none
    → ¬ ((k ≡ one) ⊎ (k ≡ other))
neither none one other k first second is (inl again) = first (sym is ∙ again)
neither none one other k first second is (inr again) = second (sym is ∙ again)

pub returns-in-Err-clause-taken : goal.returns-in-Err-clause-taken
returns-in-Err-clause-taken g c = if_ok c.accept_failed.result (λ ok still within.
    absurd (neither _ _ _ _ (λ same. cc same) (λ same. cc same)
    (c.accept_failed.ensures.none.0 ok) (c.accept_failed.ensures.again.0 still).1))

pub returns-in-Some-clause-taken : goal.returns-in-Some-clause-taken
returns-in-Some-clause-taken g c =
    let places = c.args.self.now.places.items in
    let place = c.args.place in
    let caller = c.in_ok-caller.caller in
    if_ok c.close_at-closed.result (λ ok still within. (
      caller,
      subst (λ was. slice_get (slice_set was place (Some caller)) place ≡ Some (Some caller))
          (sym c.close_at-closed.ensures.places)
          (ap (λ now. slice_get now place) (put_again places place None (Some caller))
          ∙ put places place (Some caller) within),
    ))

pub returns-in-Some-clause-places : goal.returns-in-Some-clause-places
returns-in-Some-clause-places g c = inr (
  Some c.in_ok-caller.caller,
  ap (λ places. slice_set places c.args.place (Some c.in_ok-caller.caller))
      c.close_at-closed.ensures.places
      ∙ put_again c.args.self.now.places.items c.args.place None (Some c.in_ok-caller.caller),
)
