-- Which reports and top-ups a list's claims come from.
use Rattle.std.proofs.Common.{◌≡◌, inl, inr, [], ◌∷◌, subst}
use Rattle.std.specs.Prelude.{Contains}
use Rattle.acct_model.specs.declared.entry.Entry.TheVariants as entry
use Rattle.acct_model.specs.Report.{ReportFacts}
use Rattle.acct_model.specs.Vouchers.{TopUpFacts}
use Rattle.acct_model.specs.History.{Accepted, PlansAdded, History, all_reports, all_topups}
use Rattle.acct_model.specs.Claims.{ReportClaim, TopUpClaim, OfReport, OfTopUp, report_claim}
use Rattle.acct_model.specs.Claims.{topup_claim, claims}
use Rattle.acct_model.proofs.Lists.{here, deeper, nowhere, front_or_behind}

pub claim_of_report : (es : History) (r : ReportFacts) → Contains (all_reports es) r
    → Contains (claims es) (OfReport (report_claim r))
claim_of_report [] r h = absurd (nowhere r h)
claim_of_report (Accepted (entry.Report x) ∷ es) r h =
    elim (front_or_behind x r (all_reports es) h) [
      | inl is ↦ subst (λ v.
          Contains (OfReport (report_claim x) ∷ claims es) (OfReport (report_claim v))) is
          (here (OfReport (report_claim x)) (claims es))
      | inr behind ↦ deeper (OfReport (report_claim x)) (OfReport (report_claim r)) (claims es)
          (claim_of_report es r behind)
    ]
claim_of_report (Accepted (entry.Restart x) ∷ es) r h = claim_of_report es r h
claim_of_report (PlansAdded plans ∷ es) r h = claim_of_report es r h
claim_of_report (Accepted (entry.TopUp x) ∷ es) r h =
    deeper (OfTopUp (topup_claim x)) (OfReport (report_claim r)) (claims es)
    (claim_of_report es r h)

pub claim_of_topup : (es : History) (t : TopUpFacts) → Contains (all_topups es) t
    → Contains (claims es) (OfTopUp (topup_claim t))
claim_of_topup [] t h = absurd (nowhere t h)
claim_of_topup (Accepted (entry.Report x) ∷ es) t h =
    deeper (OfReport (report_claim x)) (OfTopUp (topup_claim t)) (claims es) (claim_of_topup es t h)
claim_of_topup (Accepted (entry.Restart x) ∷ es) t h = claim_of_topup es t h
claim_of_topup (PlansAdded plans ∷ es) t h = claim_of_topup es t h
claim_of_topup (Accepted (entry.TopUp x) ∷ es) t h = elim (front_or_behind x t (all_topups es) h) [
  | inl is ↦ subst (λ v. Contains (OfTopUp (topup_claim x) ∷ claims es) (OfTopUp (topup_claim v)))
      is (here (OfTopUp (topup_claim x)) (claims es))
  | inr behind ↦ deeper (OfTopUp (topup_claim x)) (OfTopUp (topup_claim t)) (claims es)
      (claim_of_topup es t behind)
]

pub report_of_claim : (es : History) (c : ReportClaim) → Contains (claims es) (OfReport c)
    → (r : ReportFacts) × Contains (all_reports es) r × (report_claim r ≡ c)
report_of_claim [] c h = absurd (nowhere (OfReport c) h)
report_of_claim (Accepted (entry.Report x) ∷ es) c h =
    elim (front_or_behind (OfReport (report_claim x)) (OfReport c) (claims es) h) [
      | inl is ↦ (x, here x (all_reports es), (let same : report_claim x ≡ c = cc in same))
      | inr behind ↦ let rest =
          report_of_claim es c behind in (rest.0, deeper x rest.0 (all_reports es) rest.1, rest.2)
    ]
report_of_claim (Accepted (entry.Restart x) ∷ es) c h = report_of_claim es c h
report_of_claim (PlansAdded plans ∷ es) c h = report_of_claim es c h
report_of_claim (Accepted (entry.TopUp x) ∷ es) c h =
    elim (front_or_behind (OfTopUp (topup_claim x)) (OfReport c) (claims es) h) [
      | inl is ↦ cc
      | inr behind ↦ report_of_claim es c behind
    ]

pub topup_of_claim : (es : History) (c : TopUpClaim) → Contains (claims es) (OfTopUp c)
    → (t : TopUpFacts) × Contains (all_topups es) t × (topup_claim t ≡ c)
topup_of_claim [] c h = absurd (nowhere (OfTopUp c) h)
topup_of_claim (Accepted (entry.Report x) ∷ es) c h =
    elim (front_or_behind (OfReport (report_claim x)) (OfTopUp c) (claims es) h) [
      | inl is ↦ cc
      | inr behind ↦ topup_of_claim es c behind
    ]
topup_of_claim (Accepted (entry.Restart x) ∷ es) c h = topup_of_claim es c h
topup_of_claim (PlansAdded plans ∷ es) c h = topup_of_claim es c h
topup_of_claim (Accepted (entry.TopUp x) ∷ es) c h =
    elim (front_or_behind (OfTopUp (topup_claim x)) (OfTopUp c) (claims es) h) [
      | inl is ↦ (x, here x (all_topups es), (let same : topup_claim x ≡ c = cc in same))
      | inr behind ↦ let rest =
          topup_of_claim es c behind in (rest.0, deeper x rest.0 (all_topups es) rest.1, rest.2)
    ]
