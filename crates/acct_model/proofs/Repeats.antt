-- What is accepted again moves no balance.
use Rattle.std.proofs.Common.{◌≡◌, ◌≤◌, inl, inr, List, ◌∷◌, refl, sym, ◌∙◌, ap, subst}
use Rattle.std.proofs.Common.{arith, cond}
use Rattle.std.specs.Prelude.{ℕ, Contains, pos, ◌-ℤ◌, Option, None, Some, max, bytes_eq}
use Rattle.acct_model.specs.declared.plan.Plan.{Plan}
use Rattle.acct_model.specs.declared.entry.Entry.{Entry}
use Rattle.acct_model.specs.declared.entry.Entry.TheVariants as entry
use Rattle.acct_model.specs.Report.{ReportFacts}
use Rattle.acct_model.specs.Vouchers.{TopUpFacts}
use Rattle.acct_model.specs.Plans.{price_under}
use Rattle.acct_model.specs.History.{Accepted, History, session_of, all_reports, reports, first_of}
use Rattle.acct_model.specs.History.{plan_of, counted_of, greatest_counted, charged, all_topups}
use Rattle.acct_model.specs.History.{voucher_of, credited}
use Rattle.acct_model.proofs.Balances.{first_of-none, cost_before, cost_after, charged-report}
use Rattle.acct_model.proofs.Balances.{before-known, after-known}
use Rattle.acct_model.proofs.Members.{below_greatest}
use Rattle.acct_model.specs.Claims.{TopUpClaim, Claim, OfReport, OfTopUp, report_claim, topup_claim}
use Rattle.acct_model.specs.Claims.{claim_of, claims}
use Rattle.acct_model.specs.Agreement.{BalancesAreEqual}
use Rattle.acct_model.proofs.Lists.{deeper, nowhere, front_or_behind}
use Rattle.acct_model.proofs.Alike.{credited-among, to_session}
use Rattle.acct_model.proofs.Claimed.{report_of_claim, topup_of_claim}
use Rattle.acct_model.proofs.Agree.{same_names, same_counted}

-- a session costs the same after one more report, if its plan counts no less of another
pub cost-same : (plans : List Plan) (history : History) (report one : ReportFacts)
    (account : List ℕ)
    → Contains (reports history (session_of report)) one
    → counted_of (plan_of plans history (session_of report)) report
    ≤ counted_of (plan_of plans history (session_of report)) one → (o : Option ReportFacts)
    → first_of (reports history (session_of report)) ≡ o
    → cost_after plans history report account ≡ cost_before plans history report account
cost-same plans history report one account listed less None is =
    absurd (nowhere one (subst (λ xs. Contains xs one)
    (first_of-none (reports history (session_of report)) is) listed))
cost-same plans history report one account listed less (Some first) is =
    let rs = reports history (session_of report) in
    let plan = plan_of plans history (session_of report) in
    let n = counted_of plan report in
    let g = greatest_counted plan rs in
    let below : counted_of plan one ≤ g = below_greatest plan rs one listed in
    let same : max n g ≡ g = omega (arith, less, below) in
    after-known plans history report first account is
    ∙ ap (λ k. cond (bytes_eq account first.user) (price_under plan k) 0) same
    ∙ sym (before-known plans history report first account is)

-- what the plan of its session counts of it is reached already
charged_repeated : (plans : List Plan) (history : History) (r q : ReportFacts) (account : List ℕ)
    → Contains (all_reports history) q → session_of q ≡ session_of r
    → counted_of (plan_of plans history (session_of r)) r
    ≤ counted_of (plan_of plans history (session_of r)) q
    → charged plans (Accepted (entry.Report r) ∷ history) account ≡ charged plans history account
charged_repeated plans history r q account there same le =
    let step = charged-report plans history r account in
    let own = cost-same plans history r q account
    (to_session (session_of r) (all_reports history) q there (sym same)) le
    (first_of (reports history (session_of r))) refl in
    omega (arith, step, own)

pub credited_repeated : (history : History) (t u : TopUpFacts) (account : List ℕ)
    → Contains (all_topups history) u → u.account ≡ t.account → voucher_of u ≡ voucher_of t
    → credited (Accepted (entry.TopUp t) ∷ history) account ≡ credited history account
credited_repeated history t u account there owner same =
    credited-among (Accepted (entry.TopUp t) ∷ history) history account
    (λ x h. elim (front_or_behind t x (all_topups history) h) [
      | inl is ↦ (u, there, owner ∙ ap (λ (y : TopUpFacts). y.account) is, same ∙ ap voucher_of is)
      | inr behind ↦ (x, behind, refl, refl)
    ])
    (λ x h. (x, deeper t x (all_topups history) h, refl, refl))

-- An entry whose claim the history has already moves no balance.
pub balance-repeated : (plans : List Plan) (history : History) (next : Entry) (claim : Claim)
    → claim_of next ≡ Some claim → Contains (claims history) claim
    → BalancesAreEqual plans (Accepted next ∷ history) history
balance-repeated plans history (entry.Report r) claim is there account =
    let own : OfReport (report_claim r) ≡ claim = cc in
    let q = report_of_claim history (report_claim r)
    (subst (λ c. Contains (claims history) c) (sym own) there) in
    let cost = charged_repeated plans history r q.0 account q.1 (same_names q.0 r q.2)
    (same_counted (plan_of plans history (session_of r)) r q.0 (sym q.2)) in
    λ i. pos (credited history account) -ℤ pos (cost i)
balance-repeated plans history (entry.Restart r) claim is there account = refl
balance-repeated plans history (entry.TopUp t) claim is there account =
    let own : OfTopUp (topup_claim t) ≡ claim = cc in
    let u = topup_of_claim history (topup_claim t)
    (subst (λ c. Contains (claims history) c) (sym own) there) in
    let a : u.0.voucher ≡ t.voucher = ap (λ (c : TopUpClaim). c.voucher) u.2 in
    let b : u.0.sum ≡ t.sum = ap (λ (c : TopUpClaim). c.sum) u.2 in
    let gives = credited_repeated history t u.0 account u.1 (ap (λ (c : TopUpClaim). c.account) u.2)
    (λ i. (a i, b i)) in
    λ i. pos (gives i) -ℤ pos (charged plans history account)
