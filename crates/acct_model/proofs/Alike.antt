-- Reports and top-ups that say the same of every account, in any order and number.
use Rattle.std.proofs.Common.{◌≡◌, ℕ, ◌≤◌, true, cond, List, [], ◌∷◌, map, refl, sym, ◌∙◌, ap}
use Rattle.std.proofs.Common.{subst, arith}
use Rattle.std.specs.Prelude.{Contains, bytes_eq, Option, Some, max}
use Rattle.std.specs.List.{filter, sum_by}
use Rattle.std.specs.Option.{option_or}
use Rattle.acct_model.specs.declared.plan.Plan.{Plan}
use Rattle.acct_model.specs.Report.{ReportFacts}
use Rattle.acct_model.specs.Vouchers.{TopUpFacts}
use Rattle.acct_model.specs.Plans.{plan_for, price_under}
use Rattle.acct_model.specs.History.{History, SessionName, session_of, same_session, all_reports}
use Rattle.acct_model.specs.History.{reports, sessions, first_of, counted_of, greatest_counted}
use Rattle.acct_model.specs.History.{cost_of, share, charged, all_topups, topups, Voucher}
use Rattle.acct_model.specs.History.{voucher_of, same_voucher, credited}
use Rattle.acct_model.proofs.Same.{Decides-same_session, Decides-same_voucher}
use Rattle.acct_model.specs.Agreement.{AddsForNone}
use Rattle.acct_model.proofs.Members.{greatest_reached}
use Rattle.acct_model.proofs.Kept.{plan_by, plan-frozen}
use Rattle.acct_model.proofs.Lists.{here, deeper, nowhere, from_map, to_map, from_filter, to_filter}
use Rattle.acct_model.proofs.Sums.{sum_of_same}

-- ---- one session

-- what a plan counts of each of these is reached by one of those
abbrev Reaches : Option Plan → List ReportFacts → List ReportFacts → Type 0
Reaches plan these those =
    (r : ReportFacts) → Contains these r → (q : ReportFacts) × Contains those q
    × (counted_of plan r ≤ counted_of plan q)

below : (plan : Option Plan) (rs : List ReportFacts) (n : ℕ)
    → ((r : ReportFacts) → Contains rs r → counted_of plan r ≤ n)
    → greatest_counted plan rs ≤ n
below plan [] n bound = omega arith
below plan (r ∷ rs) n bound =
    let m = counted_of plan r in
    let g = greatest_counted plan rs in
    let first : m ≤ n = bound r (here r rs) in
    let rest : g ≤ n = below plan rs n (λ x h. bound x (deeper r x rs h)) in
    let e : max m g ≤ n = omega (arith, first, rest) in e

greatest_le : (plan : Option Plan) (rs qs : List ReportFacts) → Reaches plan rs qs
    → greatest_counted plan rs ≤ greatest_counted plan qs
greatest_le plan rs qs reaches =
    let g = greatest_counted plan qs in
    below plan rs g
    (λ r h.
    let q = reaches r h in
    let n = counted_of plan r in
    let m = counted_of plan q.0 in
    let up : n ≤ m = q.2 in
    let under : m ≤ g = greatest_reached.bound plan qs q.0 q.1 in
    let e : n ≤ g = omega (arith, up, under) in e)

pub first_there : (r : ReportFacts) (rs : List ReportFacts) → (first : ReportFacts)
    × Contains (r ∷ rs) first × (first_of (r ∷ rs) ≡ Some first)
first_there r [] = (r, here r [], refl)
first_there r (x ∷ rs) =
    let rest = first_there x rs in
    (rest.0, deeper r rest.0 (x ∷ rs) rest.1, ap (λ o. option_or o (Some r)) rest.2)

-- what these reports of one session cost the account
abbrev pub cost_to : List Plan → List ℕ → List ReportFacts → ℕ
cost_to plans account rs = share account (first_of rs) (cost_of (plan_by plans (first_of rs)) rs)

cost-known : (plans : List Plan) (account : List ℕ) (first : ReportFacts) (rs : List ReportFacts)
    → first_of rs ≡ Some first
    → cost_to plans account rs
    ≡ cond (bytes_eq account first.user) (cost_of (plan_for plans first.class) rs) 0
cost-known plans account first rs is = ap (λ o. share account o (cost_of (plan_by plans o) rs)) is

-- what the plan that its class names counts of each of these is reached by one of those
abbrev pub ReachesByClass : List Plan → List ReportFacts → List ReportFacts → Type 0
ReachesByClass plans these those =
    (r : ReportFacts) → Contains these r → (q : ReportFacts) × Contains those q
    × (counted_of (plan_for plans r.class) r ≤ counted_of (plan_for plans r.class) q)

one_plan : (plans : List Plan) (class : List ℕ) (these those : List ReportFacts)
    → ReachesByClass plans these those
    → ((r : ReportFacts) → Contains these r → r.class ≡ class)
    → Reaches (plan_for plans class) these those
one_plan plans class these those reaches alike r h =
    let q = reaches r h in (
      q.0,
      q.1,
      subst (λ c. counted_of (plan_for plans c) r ≤ counted_of (plan_for plans c) q.0)
          (alike r h) q.2,
    )

-- A session costs the same by reports of one user and one class whose counted numbers reach one
-- another.
pub cost-alike : (plans : List Plan) (account : List ℕ) (these those : List ReportFacts)
    → ReachesByClass plans these those → ReachesByClass plans those these
    → ((r q : ReportFacts) → Contains these r → Contains those q → (r.user ≡ q.user)
    × (r.class ≡ q.class))
    → cost_to plans account these ≡ cost_to plans account those
cost-alike plans account [] [] up down alike = refl
cost-alike plans account [] (q ∷ qs) up down alike =
    let r = down q (here q qs) in absurd (nowhere r.0 r.1)
cost-alike plans account (r ∷ rs) [] up down alike =
    let q = up r (here r rs) in absurd (nowhere q.0 q.1)
cost-alike plans account (r ∷ rs) (q ∷ qs) up down alike =
    let one = first_there r rs in
    let other = first_there q qs in
    let says = alike one.0 other.0 one.1 other.1 in
    let plan = plan_for plans one.0.class in
    let to = one_plan plans one.0.class (r ∷ rs) (q ∷ qs) up
    (λ x h. (alike x other.0 h other.1).1 ∙ sym says.1) in
    let from = one_plan plans one.0.class (q ∷ qs) (r ∷ rs) down
    (λ x h. sym (alike one.0 x one.1 h).1) in
    let le = greatest_le plan (r ∷ rs) (q ∷ qs) to in
    let ge = greatest_le plan (q ∷ qs) (r ∷ rs) from in
    let reach : greatest_counted plan (r ∷ rs) ≡ greatest_counted plan (q ∷ qs) =
    same_number (greatest_counted plan (r ∷ rs)) (greatest_counted plan (q ∷ qs)) le ge in
    let cost : cond (bytes_eq account one.0.user) (cost_of plan (r ∷ rs)) 0
    ≡ cond (bytes_eq account other.0.user) (cost_of (plan_for plans other.0.class) (q ∷ qs)) 0 =
    ap (λ n. cond (bytes_eq account one.0.user) (price_under plan n) 0) reach
    ∙ (λ i. cond (bytes_eq account (says.0 i)) (cost_of (plan_for plans (says.1 i)) (q ∷ qs)) 0) in
    cost-known plans account one.0 (r ∷ rs) one.2 ∙ cost
    ∙ sym (cost-known plans account other.0 (q ∷ qs) other.2)
  where
    same_number : (n m : ℕ) → n ≤ m → m ≤ n → n ≡ m
    same_number n m le ge = omega (arith, le, ge)

-- ---- all sessions

-- each of these reports is reached by one of those of the same session, by what the plan counts
-- that its class names
abbrev pub Covers : List Plan → List ReportFacts → List ReportFacts → Type 0
Covers plans those these =
    (r : ReportFacts) → Contains these r → (q : ReportFacts) × Contains those q
    × (session_of q ≡ session_of r)
    × (counted_of (plan_for plans r.class) r ≤ counted_of (plan_for plans r.class) q)

-- reports that cover one another, of one user and one class in each session
pub record AreAlike (plans : List Plan) (these those : List ReportFacts) : Type 0 where
  pub up : Covers plans those these
  pub down : Covers plans these those
  pub alike : (r q : ReportFacts) → Contains these r → Contains those q
      → session_of r ≡ session_of q → (r.user ≡ q.user) × (r.class ≡ q.class)

abbrev pub of_session : SessionName → List ReportFacts → List ReportFacts
of_session name rs = filter (λ r. same_session name (session_of r)) rs

from_session : (name : SessionName) (rs : List ReportFacts) (r : ReportFacts)
    → Contains (of_session name rs) r → Contains rs r × (name ≡ session_of r)
from_session name rs r h =
    let kept = from_filter (λ x. same_session name (session_of x)) rs r h in
    (kept.0, (Decides-same_session name (session_of r)).0 kept.1)

pub to_session : (name : SessionName) (rs : List ReportFacts) (r : ReportFacts) → Contains rs r
    → name ≡ session_of r → Contains (of_session name rs) r
to_session name rs r h is =
    to_filter (λ x. same_session name (session_of x)) rs r h
    ((Decides-same_session name (session_of r)).1 is)

reaches_in : (plans : List Plan) (name : SessionName) (these those : List ReportFacts)
    → Covers plans those these
    → ReachesByClass plans (of_session name these) (of_session name those)
reaches_in plans name these those covers r h =
    let kept = from_session name these r h in
    let q = covers r kept.0 in
    (q.0, to_session name those q.0 q.1 (kept.1 ∙ sym q.2), q.3)

cost_in : (plans : List Plan) (account : List ℕ) (name : SessionName)
    (these those : List ReportFacts) → AreAlike plans these those
    → cost_to plans account (of_session name these) ≡ cost_to plans account (of_session name those)
cost_in plans account name these those same =
    cost-alike plans account (of_session name these) (of_session name those)
    (reaches_in plans name these those same.up) (reaches_in plans name those these same.down)
    (λ r q at_r at_q.
    let one = from_session name these r at_r in
    let other = from_session name those q at_q in
    same.alike r q one.0 other.0 (sym one.1 ∙ other.1))

sessions_among : (plans : List Plan) (these those : List ReportFacts) → Covers plans those these
    → (name : SessionName) → Contains (map session_of these) name
    → Contains (map session_of those) name
sessions_among plans these those covers name h =
    let r = from_map session_of these name h in
    let q = covers r.0 r.1 in
    subst (λ v. Contains (map session_of those) v) (q.2 ∙ r.2) (to_map session_of those q.0 q.1)

-- if plans were added only for classes that no report has, a session costs what its reports cost by
-- the plan that the class of the first names among those in force at the end
pub charged-frozen : (plans : List Plan) (history : History) (account : List ℕ)
    → AddsForNone history
    → charged plans history account
    ≡ sum_by (λ name. cost_to plans account (reports history name)) (sessions history)
charged-frozen plans history account fresh = λ i. sum_by (λ name. share account
    (first_of (reports history name))
    (cost_of (plan-frozen plans history name fresh i) (reports history name))) (sessions history)

-- Reports that are alike cost each account the same.
pub charged-alike : (plans : List Plan) (these those : History) (account : List ℕ)
    → AddsForNone these → AddsForNone those
    → AreAlike plans (all_reports these) (all_reports those)
    → charged plans these account ≡ charged plans those account
charged-alike plans these those account fresh new same =
    let shares : (name : SessionName)
    → cost_to plans account (reports these name) ≡ cost_to plans account (reports those name) =
    λ name. cost_in plans account name (all_reports these) (all_reports those) same in
    let as_those : sum_by (λ name. cost_to plans account (reports these name)) (sessions these)
    ≡ sum_by (λ name. cost_to plans account (reports those name)) (sessions these) =
    λ i. sum_by (λ name. shares name i) (sessions these) in
    charged-frozen plans these account fresh ∙ as_those
    ∙ sum_of_same same_session Decides-same_session
    (λ name. cost_to plans account (reports those name))
    (map session_of (all_reports these)) (map session_of (all_reports those))
    (sessions_among plans (all_reports these) (all_reports those) same.up)
    (sessions_among plans (all_reports those) (all_reports these) same.down)
    ∙ sym (charged-frozen plans those account new)

-- ---- vouchers

-- each of these top-ups is one of those, their moments aside
abbrev pub AreAmong : List TopUpFacts → List TopUpFacts → Type 0
AreAmong these those =
    (t : TopUpFacts) → Contains these t → (u : TopUpFacts) × Contains those u
    × (u.account ≡ t.account) × (voucher_of u ≡ voucher_of t)

vouchers_among : (these those : List TopUpFacts) (account : List ℕ) → AreAmong these those
    → (voucher : Voucher)
    → Contains (map voucher_of (filter (λ t. bytes_eq account t.account) these)) voucher
    → Contains (map voucher_of (filter (λ t. bytes_eq account t.account) those)) voucher
vouchers_among these those account among voucher h =
    let t = from_map voucher_of (filter (λ t. bytes_eq account t.account) these) voucher h in
    let kept = from_filter (λ t. bytes_eq account t.account) these t.0 t.1 in
    let u = among t.0 kept.0 in
    let own : bytes_eq account u.0.account ≡ true = ap (bytes_eq account) u.2 ∙ kept.1 in
    subst (λ v. Contains (map voucher_of (filter (λ t. bytes_eq account t.account) those)) v)
    (u.3 ∙ t.2)
    (to_map voucher_of (filter (λ t. bytes_eq account t.account) those) u.0
    (to_filter (λ t. bytes_eq account t.account) those u.0 u.1 own))

-- Top-ups that are among one another give each account the same.
pub credited-among : (these those : History) (account : List ℕ)
    → AreAmong (all_topups these) (all_topups those)
    → AreAmong (all_topups those) (all_topups these)
    → credited these account ≡ credited those account
credited-among these those account to from =
    sum_of_same same_voucher Decides-same_voucher (λ v. v.1) (map voucher_of (topups these account))
    (map voucher_of (topups those account))
    (vouchers_among (all_topups these) (all_topups those) account to)
    (vouchers_among (all_topups those) (all_topups these) account from)
