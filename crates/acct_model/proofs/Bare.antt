-- Entries that say nothing but their claims have the same balances.
use Rattle.std.proofs.Common.{◌≡◌, ℕ, true, false, cond, List, [], ◌∷◌, map, refl, sym, ◌∙◌, ap}
use Rattle.std.specs.Prelude.{bytes_eq, Option, Some, None, option_map, max, pos, ◌-ℤ◌}
use Rattle.std.specs.List.{filter, sum_by}
use Rattle.std.specs.Option.{option_or}
use Rattle.acct_model.specs.declared.plan.Plan.{Plan}
use Rattle.acct_model.specs.declared.report.ReportKind.TheVariants.{Interim}
use Rattle.acct_model.specs.declared.entry.Entry.{Entry}
use Rattle.acct_model.specs.declared.entry.Entry.TheVariants as entry
use Rattle.acct_model.specs.Report.{ReportFacts}
use Rattle.acct_model.specs.Vouchers.{TopUpFacts}
use Rattle.acct_model.specs.Plans.{price_under}
use Rattle.acct_model.specs.History.{Member, Accepted, PlansAdded, History}
use Rattle.acct_model.specs.History.{SessionName, session_of, same_session, all_reports, reports}
use Rattle.acct_model.specs.History.{distinct, sessions, first_of, counted_of, greatest_counted}
use Rattle.acct_model.specs.History.{cost_of, share, charged, all_topups, voucher_of}
use Rattle.acct_model.specs.History.{same_voucher, credited, balance_of}
use Rattle.acct_model.specs.Claims.{ReportClaim, TopUpClaim, Claim, OfReport, OfTopUp, report_claim}
use Rattle.acct_model.specs.Claims.{topup_claim, claims}
use Rattle.acct_model.specs.Agreement.{BalancesAreEqual, AddsForNone}
use Rattle.acct_model.proofs.Kept.{plan_by}
use Rattle.acct_model.proofs.Alike.{cost_to, charged-frozen}

-- the report and the top-up that say a claim and nothing else
report_by : ReportClaim → ReportFacts
report_by c = record {
  client = c.client;
  session = c.session;
  user = c.user;
  class =
      c.class;
  kind = Interim;
  input = c.input;
  output = c.output;
  seconds = 0;
  when = 0;
  cause =
      0;
  calling = [];
  framed = None;
}

topup_by : TopUpClaim → TopUpFacts
topup_by c = record { voucher = c.voucher; account = c.account; sum = c.sum; when = 0 }

entry_by : Claim → Entry
entry_by (OfReport c) = entry.Report (report_by c)
entry_by (OfTopUp c) = entry.TopUp (topup_by c)

bare_report : ReportFacts → ReportFacts
bare_report r = report_by (report_claim r)

bare_topup : TopUpFacts → TopUpFacts
bare_topup t = topup_by (topup_claim t)

member_by : Claim → Member
member_by c = Accepted (entry_by c)

bare : History → History
bare es = map member_by (claims es)

reports_bare : (es : History) → all_reports (bare es) ≡ map bare_report (all_reports es)
unfolding bare member_by entry_by bare_report
reports_bare [] = refl
reports_bare (Accepted (entry.Report r) ∷ es) = ap (λ rs. bare_report r ∷ rs) (reports_bare es)
reports_bare (Accepted (entry.Restart r) ∷ es) = reports_bare es
reports_bare (PlansAdded plans ∷ es) = reports_bare es
reports_bare (Accepted (entry.TopUp t) ∷ es) = reports_bare es

topups_bare : (es : History) → all_topups (bare es) ≡ map bare_topup (all_topups es)
unfolding bare member_by entry_by bare_topup
topups_bare [] = refl
topups_bare (Accepted (entry.Report r) ∷ es) = topups_bare es
topups_bare (Accepted (entry.Restart r) ∷ es) = topups_bare es
topups_bare (PlansAdded plans ∷ es) = topups_bare es
topups_bare (Accepted (entry.TopUp t) ∷ es) = ap (λ ts. bare_topup t ∷ ts) (topups_bare es)

-- ---- reports

named_bare : (rs : List ReportFacts) → map session_of (map bare_report rs) ≡ map session_of rs
unfolding bare_report report_by
named_bare [] = refl
named_bare (r ∷ rs) = ap (λ names. session_of r ∷ names) (named_bare rs)

session_bare : (name : SessionName) (rs : List ReportFacts)
    → filter (λ r. same_session name (session_of r)) (map bare_report rs)
    ≡ map bare_report (filter (λ r. same_session name (session_of r)) rs)
unfolding bare_report report_by
session_bare name [] = refl
session_bare name (r ∷ rs) =
    elim (same_session name (session_of r)) as (λ b.
    cond b (bare_report r ∷ filter (λ x. same_session name (session_of x)) (map bare_report rs))
    (filter (λ x. same_session name (session_of x)) (map bare_report rs))
    ≡ map bare_report (cond b (r ∷ filter (λ x. same_session name (session_of x)) rs)
    (filter (λ x. same_session name (session_of x)) rs))) [
      | true ↦ ap (λ xs. bare_report r ∷ xs) (session_bare name rs)
      | false ↦ session_bare name rs
    ]

option_or_map : {X Y : Type 0} (f : X → Y) (o : Option X) (x : X)
    → option_or (option_map f o) (Some (f x)) ≡ option_map f (option_or o (Some x))
option_or_map f None x = refl
option_or_map f (Some y) x = refl

first_bare : (rs : List ReportFacts)
    → first_of (map bare_report rs) ≡ option_map bare_report (first_of rs)
first_bare [] = refl
first_bare (r ∷ rs) =
    ap (λ o. option_or o (Some (bare_report r))) (first_bare rs)
    ∙ option_or_map bare_report (first_of rs) r

greatest_bare : (plan : Option Plan) (rs : List ReportFacts)
    → greatest_counted plan (map bare_report rs) ≡ greatest_counted plan rs
unfolding bare_report report_by
greatest_bare plan [] = refl
greatest_bare plan (r ∷ rs) = ap (λ n. max (counted_of plan r) n) (greatest_bare plan rs)

first_cost_bare : (plans : List Plan) (account : List ℕ) (rs : List ReportFacts)
    (first : Option ReportFacts)
    → share account (option_map bare_report first)
    (cost_of (plan_by plans (option_map bare_report first)) rs)
    ≡ share account first (cost_of (plan_by plans first) rs)
unfolding bare_report report_by
first_cost_bare plans account rs None = refl
first_cost_bare plans account rs (Some first) = refl

cost_bare : (plans : List Plan) (account : List ℕ) (rs : List ReportFacts)
    → cost_to plans account (map bare_report rs) ≡ cost_to plans account rs
cost_bare plans account rs =
    let bare_rs = map bare_report rs in
    ap (λ o. share account o (cost_of (plan_by plans o) bare_rs)) (first_bare rs)
    ∙ first_cost_bare plans account bare_rs (first_of rs)
    ∙ ap (λ n. share account (first_of rs) (price_under (plan_by plans (first_of rs)) n))
    (greatest_bare (plan_by plans (first_of rs)) rs)

-- no plan is added among them
added_bare : (cs : List Claim) → AddsForNone (map member_by cs)
unfolding member_by
added_bare [] = tt
added_bare (c ∷ cs) = added_bare cs

charged_bare : (plans : List Plan) (es : History) (account : List ℕ) → AddsForNone es
    → charged plans (bare es) account ≡ charged plans es account
unfolding bare
charged_bare plans es account fresh =
    let shares : (name : SessionName)
    → cost_to plans account (reports (bare es) name) ≡ cost_to plans account (reports es name) =
    λ name. ap (λ rs. cost_to plans account
    (filter (λ r. same_session name (session_of r)) rs)) (reports_bare es)
    ∙ ap (cost_to plans account) (session_bare name (all_reports es))
    ∙ cost_bare plans account (reports es name) in
    let names : map session_of (all_reports (bare es)) ≡ map session_of (all_reports es) =
    ap (map session_of) (reports_bare es) ∙ named_bare (all_reports es) in
    let costs : sum_by (λ name. cost_to plans account (reports (bare es) name)) (sessions (bare es))
    ≡ sum_by (λ name. cost_to plans account (reports es name)) (sessions es) =
    λ i. sum_by (λ name. shares name i) (distinct same_session (names i)) in
    charged-frozen plans (bare es) account (added_bare (claims es)) ∙ costs
    ∙ sym (charged-frozen plans es account fresh)

-- ---- top-ups

vouchers_bare : (account : List ℕ) (ts : List TopUpFacts)
    → map voucher_of (filter (λ t. bytes_eq account t.account) (map bare_topup ts))
    ≡ map voucher_of (filter (λ t. bytes_eq account t.account) ts)
unfolding bare_topup topup_by
vouchers_bare account [] = refl
vouchers_bare account (t ∷ ts) =
    elim (bytes_eq account t.account) as (λ b.
    map voucher_of (cond b
    (bare_topup t ∷ filter (λ x. bytes_eq account x.account) (map bare_topup ts))
    (filter (λ x. bytes_eq account x.account) (map bare_topup ts)))
    ≡ map voucher_of (cond b (t ∷ filter (λ x. bytes_eq account x.account) ts)
    (filter (λ x. bytes_eq account x.account) ts))) [
      | true ↦ ap (λ vs. voucher_of t ∷ vs) (vouchers_bare account ts)
      | false ↦ vouchers_bare account ts
    ]

credited_bare : (es : History) (account : List ℕ)
    → credited (bare es) account ≡ credited es account
credited_bare es account =
    ap (λ ts. sum_by (λ v. v.1)
    (distinct same_voucher (map voucher_of (filter (λ t. bytes_eq account t.account) ts))))
    (topups_bare es)
    ∙ ap (λ vs. sum_by (λ v. v.1) (distinct same_voucher vs))
    (vouchers_bare account (all_topups es))

balance_bare : (plans : List Plan) (es : History) (account : List ℕ) → AddsForNone es
    → balance_of plans (bare es) account ≡ balance_of plans es account
balance_bare plans es account fresh =
    λ i. pos (credited_bare es account i) -ℤ pos (charged_bare plans es account fresh i)

-- Lists with the same claims in the same order have the same balances.
pub balance-claims : (plans : List Plan) (these those : History)
    → AddsForNone these → AddsForNone those → claims these ≡ claims those
    → BalancesAreEqual plans these those
unfolding bare
balance-claims plans these those fresh new same account =
    sym (balance_bare plans these account fresh)
    ∙ ap (λ cs. balance_of plans (map member_by cs) account) same
    ∙ balance_bare plans those account new
