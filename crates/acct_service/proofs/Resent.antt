-- What was accepted may be sent again.
use Rattle.std.proofs.Common.{◌≡◌, inl, inr, ℕ, List, [], ◌∷◌, refl, sym, ◌∙◌, ap}
use Rattle.std.proofs.Common.{subst, arith, Some, None}
use Rattle.std.proofs.lemmas.Int.{ints}
use Rattle.std.proofs.lemmas.List.Elements.{All-contains}
use Rattle.std.specs.Prelude.{Contains, bytes_eq, pos, ◌-ℤ◌}
use Rattle.std.specs.List.{filter}
use Rattle.std.specs.Option.{option_or}
use Rattle.acct_model.specs.declared.plan.Plan.{Plan}
use Rattle.acct_model.specs.declared.entry.Entry.{Entry}
use Rattle.acct_model.specs.declared.entry.Entry.TheVariants as entry
use Rattle.acct_model.specs.Report.{ReportFacts}
use Rattle.acct_model.specs.Vouchers.{TopUpFacts}
use Rattle.acct_model.specs.Plans.{plans_added}
use Rattle.acct_model.specs.History.{Accepted, PlansAdded, History, all_topups, first_of, InRange}
use Rattle.acct_model.specs.History.{AreInRange, Agrees, AgreesWithAll, Admissible}
use Rattle.acct_model.specs.History.{session_of, same_session, all_reports, reports}
use Rattle.acct_model.specs.Claims.{TopUpClaim, OfReport, OfTopUp, report_claim, topup_claim}
use Rattle.acct_model.specs.Claims.{claims}
use Rattle.acct_model.specs.Forward.{Batch}
use Rattle.acct_model.proofs.Lists.{nowhere, front_or_behind, to_filter, from_filter}
use Rattle.acct_model.proofs.Agree.{same_names}
use Rattle.acct_model.proofs.Claimed.{claim_of_report, claim_of_topup, report_of_claim}
use Rattle.acct_model.proofs.Claimed.{topup_of_claim}
use Rattle.acct_model.proofs.KeptLaws.{plans_kept}
use Rattle.acct_model.proofs.Repeats.{balance-repeated}
use Rattle.acct_model.proofs.Same.{Decides-bytes_eq, Decides-same_session}
use Rattle.acct_model.proofs.SamePlans.{same-balance}
use Rattle.acct_model.proofs.TopUps.{Fits}
use Rattle.acct_book.specs.Effect.{Effect, added, repeated, differs, limited, failed, looked}
use Rattle.acct_book.specs.Effect.{passed, unasked, after_effect, Holds}
use Rattle.acct_book.specs.Outcome.{IsRepeated}
use Rattle.acct_book_forward.specs.Carrying.{SelectionFacts, CarryingMovesNothing}
use Rattle.acct_book_forward.proofs.CarriedOn.{moves_nothing}
use Rattle.acct_files.specs.declared.import_report.Outcome.{Outcome}
use Rattle.acct_files.specs.Vouchers.{Fields}
use Rattle.acct_files.specs.Importing.{Imported}
use Rattle.acct_service.specs.Machine.{Visit, Step}
use Rattle.acct_service.specs.Life.{Span, served, imported, extended, carried, Past}
use Rattle.acct_service.specs.Life.{PriceAlike, MayExtend, plans_after, Goes, StopLeaves, LivesOn}
use Rattle.acct_service.specs.Settling.{HasSameTopUps, MayComeAgain}
use Rattle.acct_service.proofs.AlikePlans.{same_plans}
use Rattle.acct_service.proofs.Aside.{HaveSameReports}
use Rattle.acct_service.proofs.Kept.{run_chain}
use Rattle.acct_service.proofs.Lives.{first_stands}
use Rattle.acct_service.proofs.Spans.{chain_invariant}

-- ---- what holds of each history of a life

-- every balance is in range, and top-ups of one number have one account and one sum
pub record IsOrderly (plans : List Plan) (history : History) : Type 0 where
  pub in_range : AreInRange plans history
  pub agreed : (one other : TopUpFacts) → Contains (all_topups history) one
      → Contains (all_topups history) other
      → one.voucher ≡ other.voucher → (one.account ≡ other.account) × (one.sum ≡ other.sum)

agrees_with : (history : History) (t other : TopUpFacts) → Agrees history t
    → Contains (all_topups history) other → other.voucher ≡ t.voucher
    → (other.account ≡ t.account) × (other.sum ≡ t.sum)
agrees_with history t other agrees h same =
    All-contains (Fits t) (all_topups history) other agrees h same

agreed_after : (history : History) (next : Entry) → AgreesWithAll history next
    → ((one other : TopUpFacts) → Contains (all_topups history) one
    → Contains (all_topups history) other → one.voucher ≡ other.voucher
    → (one.account ≡ other.account) × (one.sum ≡ other.sum))
    → (one other : TopUpFacts) → Contains (all_topups (Accepted next ∷ history)) one
    → Contains (all_topups (Accepted next ∷ history)) other
    → one.voucher ≡ other.voucher → (one.account ≡ other.account) × (one.sum ≡ other.sum)
agreed_after history (entry.Report r) agrees before one other at_one at_other same =
    before one other at_one at_other same
agreed_after history (entry.Restart r) agrees before one other at_one at_other same =
    before one other at_one at_other same
agreed_after history (entry.TopUp t) agrees before one other at_one at_other same =
    elim (front_or_behind t one (all_topups history) at_one) [
      | inl is ↦ elim (front_or_behind t other (all_topups history) at_other) [
        | inl also ↦ let both : one ≡ other = sym is ∙ also in
            (ap (λ (x : TopUpFacts). x.account) both, ap (λ (x : TopUpFacts). x.sum) both)
        | inr behind ↦
            let says = agrees_with history t other agrees behind
            (sym same ∙ ap (λ (x : TopUpFacts). x.voucher) (sym is)) in (
              sym (says.0 ∙ ap (λ (x : TopUpFacts). x.account) is),
              sym (says.1 ∙ ap (λ (x : TopUpFacts). x.sum) is),
            )
      ]
      | inr deep ↦ elim (front_or_behind t other (all_topups history) at_other) [
        | inl also ↦
            let says = agrees_with history t one agrees deep
            (same ∙ ap (λ (x : TopUpFacts). x.voucher) (sym also)) in (
              says.0 ∙ ap (λ (x : TopUpFacts). x.account) also,
              says.1 ∙ ap (λ (x : TopUpFacts). x.sum) also,
            )
        | inr behind ↦ before one other deep behind same
      ]
    ]

orderly_after : (plans : List Plan) (history new : History) (next : Entry)
    → Admissible plans history next → new ≡ Accepted next ∷ history → IsOrderly plans history
    → IsOrderly plans new
orderly_after plans history new next fine is old =
    subst (IsOrderly plans) (sym is)
    (let after : IsOrderly plans (Accepted next ∷ history) = record {
      in_range = fine.in_range;
      agreed = agreed_after history next fine.agrees old.agreed;
    } in after)

orderly_same : (plans : List Plan) (old new : History) → new ≡ old → IsOrderly plans old
    → IsOrderly plans new
orderly_same plans old new is h = subst (IsOrderly plans) (sym is) h

none_in_range : InRange (pos 0 -ℤ pos 0)
none_in_range = record { low = omega (arith, ints); high = omega (arith, ints) }

pub orderly_none : (plans : List Plan) → IsOrderly plans []
orderly_none plans = record {
  in_range = λ account. none_in_range;
  agreed = λ one other h. absurd (nowhere one h);
}

effect_orderly : (plans : List Plan) (old : History) (effect : Effect) → Holds plans old effect
    → IsOrderly plans old → IsOrderly plans (after_effect old effect)
effect_orderly plans old (added e) (fine, fresh) h =
    orderly_after plans old (Accepted e ∷ old) e fine refl h
effect_orderly plans old (repeated e) holds h = h
effect_orderly plans old (differs e kept) holds h = h
effect_orderly plans old (limited e balance) holds h = h
effect_orderly plans old (failed e) holds h = h
effect_orderly plans old looked holds h = h
effect_orderly plans old passed holds h = h
effect_orderly plans old unasked holds h = h

-- ---- steps

orderly_alike : (these those : List Plan) (history : History) → PriceAlike these those
    → IsOrderly these history → IsOrderly those history
orderly_alike these those history alike h = record {
  in_range = λ account. subst InRange (same-balance these those history account
      (same_plans these those alike)) (h.in_range account);
  agreed = h.agreed;
}

visit_orderly : (plans : List Plan) (old new : History) (visit : Visit)
    → Step plans old visit new → IsOrderly plans old → IsOrderly plans new
visit_orderly plans old new visit step h =
    subst (IsOrderly plans) (sym step.leads)
    (effect_orderly plans old visit.effect step.holds h)

lines_orderly : (plans : List Plan) (moment : ℕ) (old new : History) (rows : List Fields)
    (outcomes : List Outcome) → Imported plans moment old rows outcomes new
    → IsOrderly plans old → IsOrderly plans new
lines_orderly plans moment old new [] [] is h = orderly_same plans old new is h
lines_orderly plans moment old new [] (told ∷ outcomes) run h = absurd run
lines_orderly plans moment old new (fields ∷ rows) [] run h = absurd run
lines_orderly plans moment old new (fields ∷ rows) (told ∷ outcomes)
    (effect, becomes, holds, rest) h =
    lines_orderly plans moment (after_effect old effect) new rows outcomes rest
    (effect_orderly plans old effect holds h)

-- an addition of plans moves no balance
more_orderly : (plans more : List Plan) (old : History) → MayExtend plans more
    → IsOrderly plans old → IsOrderly more (PlansAdded (plans_added plans more) ∷ old)
more_orderly plans more old may h = record {
  in_range = λ account. subst InRange (sym (plans_kept.added plans more old account
      may.old_are_good may.new_are_good may.extends)) (h.in_range account);
  agreed = h.agreed;
}

-- nor does carrying sessions forward
carried_orderly : (plans : List Plan) (old new : History) {selection : SelectionFacts}
    {batches : List Batch} → CarryingMovesNothing selection plans old batches new
    → IsOrderly plans old → IsOrderly plans new
carried_orderly plans old new stays h = record {
  in_range = λ account. subst InRange (sym (stays.balances account)) (h.in_range account);
  agreed = λ one other at_one at_other. h.agreed one other
      (subst (λ ts. Contains ts one) stays.topups at_one)
      (subst (λ ts. Contains ts other) stays.topups at_other);
}

goes_orderly : (plans : List Plan) (old new : History) (span : Span)
    → Goes plans old span new → IsOrderly plans old → IsOrderly (plans_after plans span) new
goes_orderly plans old new (served those visits) (alike, run) h =
    orderly_alike those plans new alike
    (chain_invariant (λ old visit new. Step those old visit new) (IsOrderly those)
    (visit_orderly those) old new visits (run_chain those old new visits run)
    (orderly_alike plans those old (λ class. sym (alike class)) h))
goes_orderly plans old new (imported config moment rows outcomes tried) (alike, run) h =
    orderly_alike config.plans plans new alike
    (lines_orderly config.plans moment old new rows outcomes run
    (orderly_alike plans config.plans old (λ class. sym (alike class)) h))
goes_orderly plans old new (extended more) (may, is) h =
    subst (IsOrderly more) (sym is) (more_orderly plans more old may h)
goes_orderly plans old new (carried those selection batches) (alike, chosen) h =
    orderly_alike those plans new alike
    (carried_orderly those old new
    (moves_nothing selection those old batches new chosen)
    (orderly_alike plans those old (λ class. sym (alike class)) h))

stop_orderly : (plans : List Plan) (span : Span) (history left : History)
    → StopLeaves plans span history left → IsOrderly plans history → IsOrderly plans left
stop_orderly plans span history left may h =
    elim may [
      | inl is ↦ orderly_same plans history left is h
      | inr (e, tried, fine, is) ↦ orderly_after plans history left e fine is h
    ]

pub span_orderly : (old new : Past) (span : Span) → LivesOn old span new
    → IsOrderly old.plans old.history → IsOrderly new.plans new.history
span_orderly old new span (end, goes, plans, may, beside) h =
    stop_orderly new.plans span end new.history may
    (subst (λ ps. IsOrderly ps end) (sym plans)
    (goes_orderly old.plans old.history end span goes h))

-- ---- what is received again

first_some : (t : TopUpFacts) (ts : List TopUpFacts) → Contains ts t
    → (first : TopUpFacts) × (first_of ts ≡ Some first)
first_some t [] h = absurd (nowhere t h)
first_some t (x ∷ ts) h =
    elim (first_of ts) as (λ o. (first : TopUpFacts) × (option_or o (Some x) ≡ Some first)) [
      | None ↦ (x, refl)
      | Some y ↦ (y, refl)
    ]

repeats : (plans : List Plan) (history : History) → IsOrderly plans history → (t : TopUpFacts)
    → Contains (claims history) (OfTopUp (topup_claim t)) → IsRepeated history (entry.TopUp t)
repeats plans history orderly t claimed =
    let u = topup_of_claim history (topup_claim t) claimed in
    let number : u.0.voucher ≡ t.voucher = ap (λ (c : TopUpClaim). c.voucher) u.2 in
    let there = to_filter (λ x. bytes_eq t.voucher x.voucher) (all_topups history) u.0 u.1
    ((Decides-bytes_eq t.voucher u.0.voucher).1 (sym number)) in
    let first = first_some u.0 (filter (λ x. bytes_eq t.voucher x.voucher) (all_topups history))
    there in
    let kept = from_filter (λ x. bytes_eq t.voucher x.voucher) (all_topups history) first.0
    (first_stands first.0 (filter (λ x. bytes_eq t.voucher x.voucher) (all_topups history))
    first.1) in
    let same : first.0.voucher ≡ u.0.voucher =
    sym ((Decides-bytes_eq t.voucher first.0.voucher).0 kept.1) ∙ sym number in
    let says = orderly.agreed first.0 u.0 kept.0 u.1 same in (
      first.0,
      first.1,
      says.0 ∙ ap (λ (c : TopUpClaim). c.account) u.2,
      says.1 ∙ ap (λ (c : TopUpClaim). c.sum) u.2,
    )

-- the claim of a report whose session has the same reports in both histories
claimed_in_both : (whole history : History) (r : ReportFacts)
    → reports whole (session_of r) ≡ reports history (session_of r)
    → Contains (claims whole) (OfReport (report_claim r))
    → Contains (claims history) (OfReport (report_claim r))
claimed_in_both whole history r same claimed =
    let q = report_of_claim whole (report_claim r) claimed in
    let of = λ (x : ReportFacts). same_session (session_of r) (session_of x) in
    let there = to_filter of (all_reports whole) q.0 q.1
    ((Decides-same_session (session_of r) (session_of q.0)).1 (sym (same_names q.0 r q.2))) in
    let kept = from_filter of (all_reports history) q.0
    (subst (λ rs. Contains rs q.0) same there) in
    subst (λ c. Contains (claims history) (OfReport c)) q.2
    (claim_of_report history q.0 kept.0)

pub comes_again : (past : Past) → IsOrderly past.plans past.history → HasSameTopUps past
    → HaveSameReports past → MayComeAgain past
comes_again past orderly topups same = record {
  report = λ r claimed apart.
      let there = claimed_in_both past.whole past.history r (same (session_of r) apart) claimed in
      let equal = balance-repeated past.plans past.history (entry.Report r)
      (OfReport (report_claim r)) refl there in (
        record {
          agrees = tt;
          in_range = λ account. subst InRange (sym (equal account)) (orderly.in_range account);
        },
        equal,
      );
  topup = λ t claimed.
      let u = topup_of_claim past.whole (topup_claim t) claimed in
      repeats past.plans past.history orderly t
      (subst (λ c. Contains (claims past.history) (OfTopUp c)) u.2
      (claim_of_topup past.history u.0 (subst (λ ts. Contains ts u.0) topups u.1)));
}
