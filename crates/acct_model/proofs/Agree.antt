-- When two lists of entries have the same balances.
use Rattle.std.proofs.Common.{◌≡◌, ◌≤◌, List, sym, ◌∙◌, ap, arith}
use Rattle.std.specs.Prelude.{Contains, Option, pos, ◌-ℤ◌}
use Rattle.acct_model.specs.declared.plan.Plan.{Plan}
use Rattle.acct_model.specs.Report.{ReportFacts}
use Rattle.acct_model.specs.Vouchers.{TopUpFacts}
use Rattle.acct_model.specs.Plans.{plan_for, counted_under}
use Rattle.acct_model.specs.History.{History}
use Rattle.acct_model.specs.History.{SessionName, session_of, all_reports, counted_of, all_topups}
use Rattle.acct_model.specs.Claims.{ReportClaim, TopUpClaim, OfReport, OfTopUp, report_claim}
use Rattle.acct_model.specs.Claims.{topup_claim, claims, IsConsistent, ClaimsNoMore}
use Rattle.acct_model.specs.Agreement.{BalancesAreEqual, ClaimsTheSame, AddsForNone}
use Rattle.acct_model.proofs.Alike.{Covers, AreAlike, AreAmong, charged-alike, credited-among}
use Rattle.acct_model.proofs.Claimed.{claim_of_report, claim_of_topup, report_of_claim}
use Rattle.acct_model.proofs.Claimed.{topup_of_claim}

-- two reports of one claim
pub same_names : (r q : ReportFacts) → report_claim r ≡ report_claim q → session_of r ≡ session_of q
same_names r q e = ap
    (λ (c : ReportClaim). let s : SessionName =
    record { client = c.client; session = c.session } in s) e

pub same_counted : (plan : Option Plan) (r q : ReportFacts) → report_claim r ≡ report_claim q
    → counted_of plan r ≤ counted_of plan q
same_counted plan r q e =
    let n = counted_of plan r in
    let m = counted_of plan q in
    let same : n ≡ m = ap (λ (c : ReportClaim). counted_under plan c.input c.output) e in
    let le : n ≤ m = omega (arith, same) in le

-- if no claim is more, each report has one of its own claim, of which each plan counts no less
pub counted-claimed : (plan : Option Plan) (these those : History) → ClaimsNoMore these those
    → (r : ReportFacts) → Contains (all_reports these) r
    → (q : ReportFacts) × Contains (all_reports those) q × (session_of q ≡ session_of r)
    × (counted_of plan r ≤ counted_of plan q)
counted-claimed plan these those more r h =
    let q = report_of_claim those (report_claim r)
    (more (OfReport (report_claim r)) (claim_of_report these r h)) in
    (q.0, q.1, same_names q.0 r q.2, same_counted plan r q.0 (sym q.2))

-- if no claim is more, each report is covered
pub covers-claimed : (plans : List Plan) (these those : History) → ClaimsNoMore these those
    → Covers plans (all_reports those) (all_reports these)
covers-claimed plans these those more r h =
    counted-claimed (plan_for plans r.class) these those more r h

among_claimed : (these those : History)
    → ((t : TopUpFacts) → Contains (all_topups these) t
    → Contains (claims those) (OfTopUp (topup_claim t)))
    → AreAmong (all_topups these) (all_topups those)
among_claimed these those claimed t h =
    let u = topup_of_claim those (topup_claim t) (claimed t h) in (
      u.0,
      u.1,
      ap (λ (c : TopUpClaim). c.account) u.2,
      (let a : u.0.voucher ≡ t.voucher =
          ap (λ (c : TopUpClaim). c.voucher) u.2 in let b : u.0.sum ≡ t.sum =
          ap (λ (c : TopUpClaim). c.sum) u.2 in λ i. (a i, b i)),
    )

-- A list whose claims are all claims of a consistent one, which has each of its top-up claims and
-- covers each of its reports, has its balances.
pub balances-covered : (plans : List Plan) (these those : History)
    → AddsForNone these → AddsForNone those → IsConsistent those
    → ClaimsNoMore these those
    → ((t : TopUpFacts) → Contains (all_topups those) t
    → Contains (claims these) (OfTopUp (topup_claim t)))
    → Covers plans (all_reports these) (all_reports those)
    → BalancesAreEqual plans these those
balances-covered plans these those fresh new consistent more topped covered account =
    let alike : AreAlike plans (all_reports these) (all_reports those) = record {
      up = covers-claimed plans these those more;
      down = covered;
      alike = λ r q at_r at_q same.
          let x = report_of_claim those (report_claim r)
          (more (OfReport (report_claim r)) (claim_of_report these r at_r)) in
          let says = consistent.reports x.0 q x.1 at_q (same_names x.0 r x.2 ∙ same) in (
            sym (ap (λ (c : ReportClaim). c.user) x.2)
                ∙ says.0,
            sym (ap (λ (c : ReportClaim). c.class) x.2) ∙ says.1,
          );
    } in
    let costs = charged-alike plans these those account fresh new alike in
    let gives = credited-among these those account
    (among_claimed these those (λ t h. more (OfTopUp (topup_claim t)) (claim_of_topup these t h)))
    (among_claimed those these topped) in
    λ i. pos (gives i) -ℤ pos (costs i)

-- Lists with the same claims have the same balances, if one of them is consistent.
pub balances-same : (plans : List Plan) (these those : History)
    → AddsForNone these → AddsForNone those → IsConsistent these
    → ClaimsTheSame these those → BalancesAreEqual plans these those
balances-same plans these those fresh new consistent same account =
    let to : ClaimsNoMore these those = λ c. (same c).0 in
    let from : ClaimsNoMore those these = λ c. (same c).1 in
    sym (balances-covered plans those these new fresh consistent from
    (λ t h. to (OfTopUp (topup_claim t)) (claim_of_topup these t h))
    (covers-claimed plans these those to) account)
