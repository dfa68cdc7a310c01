-- How one more entry moves a balance.
use Rattle.std.proofs.Common.{◌≡◌, ◌≢◌, ℕ, ◌+◌, Bool, true, false, cond, ◌||◌, List, [], ◌∷◌, map}
use Rattle.std.proofs.Common.{refl}
use Rattle.std.proofs.Common.{sym, ◌∙◌, ap, arith}
use Rattle.std.proofs.lemmas.Int.{ints}
use Rattle.std.specs.Prelude.{pos, ◌-ℤ◌, ◌+ℤ◌, bytes_eq, Option, Some, None, option_map}
use Rattle.std.specs.List.{list_any, sum_by, filter}
use Rattle.std.specs.Option.{option_or, option_and_then}
use Rattle.acct_model.specs.declared.plan.Plan.{Plan}
use Rattle.acct_model.specs.declared.entry.Restart.{Restart}
use Rattle.acct_model.specs.declared.entry.Entry.TheVariants as entry
use Rattle.acct_model.specs.Report.{ReportFacts}
use Rattle.acct_model.specs.Vouchers.{TopUpFacts}
use Rattle.acct_model.specs.Plans.{plan_for, plans_before}
use Rattle.acct_model.specs.History.{Accepted, PlansAdded, History, Opening, opening_of}
use Rattle.acct_model.specs.History.{plan_opened}
use Rattle.acct_model.specs.History.{SessionName, session_of, same_session, all_reports, reports}
use Rattle.acct_model.specs.History.{distinct, first_of, is_owner, plan_of, cost_of}
use Rattle.acct_model.specs.History.{charge_of, share, owned, charged, all_topups, topups, topup_of}
use Rattle.acct_model.specs.History.{Voucher, voucher_of, same_voucher, credited, balance_of}
use Rattle.acct_model.proofs.Same.{Decides-bytes_eq, Decides-same_session, Decides-same_voucher}
use Rattle.acct_model.proofs.Same.{Decides-false}
use Rattle.acct_model.proofs.Distinct.{sum_by-distinct-more}

-- ---- reports

-- the reports of the report's own session
pub reports-own : (history : History) (report : ReportFacts)
    → reports (Accepted (entry.Report report) ∷ history) (session_of report) ≡ report
    ∷ reports history (session_of report)
reports-own history report =
    let s = session_of report in
    ap (λ b. cond b (report ∷ reports history s) (reports history s))
    ((Decides-same_session s s).1 refl)

-- the reports of any other session
pub reports-other : (history : History) (report : ReportFacts) (name : SessionName)
    → name ≢ session_of report
    → reports (Accepted (entry.Report report) ∷ history) name ≡ reports history name
reports-other history report name other =
    ap (λ b. cond b (report ∷ reports history name) (reports history name))
    (Decides-false (same_session name (session_of report))
    (Decides-same_session name (session_of report)) other)

of_session : SessionName → List ReportFacts → List ReportFacts
of_session name rs = filter (λ r. same_session name (session_of r)) rs

-- a session without a report weighs nothing
share_listed : (weight : ℕ) (account : List ℕ) (name : SessionName) (rs : List ReportFacts)
    → cond (list_any (same_session name) (map session_of rs))
    (share account (first_of (of_session name rs)) weight) 0
    ≡ share account (first_of (of_session name rs)) weight
unfolding of_session
share_listed weight account name [] = refl
share_listed weight account name (r ∷ rs) =
    elim (same_session name (session_of r)) as (λ b.
    cond (b || list_any (same_session name) (map session_of rs))
    (share account (first_of (cond b (r ∷ of_session name rs) (of_session name rs))) weight) 0
    ≡ share account (first_of (cond b (r ∷ of_session name rs) (of_session name rs))) weight) [
      | true ↦ refl
      | false ↦ share_listed weight account name rs
    ]

-- A report changes what its own session weighs, if it changes the weight of no other.
pub owned-report : (before after : SessionName → ℕ) (history : History) (report : ReportFacts)
    (account : List ℕ)
    → ((name : SessionName) → name ≢ session_of report → after name ≡ before name)
    → owned after (Accepted (entry.Report report) ∷ history) account
    + share account (first_of (reports history (session_of report))) (before (session_of report))
    ≡ owned before history account
    + share account (first_of (report ∷ reports history (session_of report)))
    (after (session_of report))
unfolding of_session
owned-report before after history report account same =
    let s = session_of report in
    let old : SessionName → ℕ = λ name. share account (first_of (reports history name))
    (before name) in
    let new : SessionName
    → ℕ = λ name. share account (first_of (reports (Accepted (entry.Report report) ∷ history) name))
    (after name) in
    let agree : (name : SessionName) → name ≢ s
    → new name ≡ old name =
    λ name other i. share account (first_of (reports-other history report name other i))
    (same name other i) in
    let own : new s ≡ share account (first_of (report ∷ reports history s)) (after s) =
    ap (λ rs. share account (first_of rs) (after s)) (reports-own history report) in
    let step = sum_by-distinct-more same_session Decides-same_session old new s agree
    (map session_of (all_reports history)) in
    let listed : cond (list_any (same_session s) (map session_of (all_reports history)))
    (old s) 0 ≡ old s = share_listed (before s) account s (all_reports history) in
    omega (arith, step, listed, own)

-- ---- the first of a list

pub first_of-more : {X : Type 0} (x y : X) (older : List X) → first_of older ≡ Some y
    → first_of (x ∷ older) ≡ Some y
first_of-more x y older is = ap (λ o. option_or o (Some x)) is

or_some : {X : Type 0} (o : Option X) (x : X) → option_or o (Some x) ≢ None
or_some None x e = cc
or_some (Some y) x e = cc

-- only an empty list has no first
pub first_of-none : {X : Type 0} (xs : List X) → first_of xs ≡ None → xs ≡ []
first_of-none [] e = refl
first_of-none (x ∷ xs) e = absurd (or_some (first_of xs) x e)

-- ---- the plan of a session after a report

or_none : {X : Type 0} (o : Option X) → option_or o None ≡ o
or_none None = refl
or_none (Some x) = refl

abbrev pub first_in : Option Opening → Option ReportFacts
first_in o = option_map (λ opening. opening.first) o

first_or : (plans : List Plan) (o : Option Opening) (r : ReportFacts)
    → first_in (option_or o (Some (record { first = r; plans = plans })))
    ≡ option_or (first_in o) (Some r)
first_or plans None r = refl
first_or plans (Some opening) r = refl

opened_first : (plans : List Plan) (name : SessionName) (o : Option Opening) (r : ReportFacts)
    (rs : List ReportFacts) (b : Bool) → first_in o ≡ first_of rs
    → first_in (option_or o (cond b (Some (record { first = r; plans = plans })) None))
    ≡ first_of (cond b (r ∷ rs) rs)
opened_first plans name o r rs true is =
    first_or plans o r ∙ ap (λ f. option_or f (Some r)) is
opened_first plans name o r rs false is = ap first_in (or_none o) ∙ is

-- a session is opened by its first report
pub opening-first : (plans : List Plan) (history : History) (name : SessionName)
    → first_in (opening_of plans history name) ≡ first_of (reports history name)
opening-first plans [] name = refl
opening-first plans (Accepted (entry.Report r) ∷ older) name =
    opened_first plans name (opening_of plans older name) r (reports older name)
    (same_session name (session_of r)) (opening-first plans older name)
opening-first plans (Accepted (entry.Restart x) ∷ older) name = opening-first plans older name
opening-first plans (Accepted (entry.TopUp t) ∷ older) name = opening-first plans older name
opening-first plans (PlansAdded added ∷ older) name =
    opening-first (plans_before added plans) older name

none_opened : (o : Option Opening) → first_in o ≡ None → o ≡ None
none_opened None e = refl
none_opened (Some opening) e = absurd (cc)

some_opened : (o : Option Opening) (x : ReportFacts) → first_in o ≡ Some x
    → (opening : Opening) × (o ≡ Some opening)
some_opened None x e = absurd (cc)
some_opened (Some opening) x e = (opening, refl)

-- how a report opens its session, if it is the first
pub opening-report : (plans : List Plan) (history : History) (report : ReportFacts)
    → opening_of plans (Accepted (entry.Report report) ∷ history) (session_of report)
    ≡ option_or (opening_of plans history (session_of report))
    (Some (record { first = report; plans = plans }))
opening-report plans history report =
    let s = session_of report in
    ap (λ b. option_or (opening_of plans history s)
    (cond b (Some (record { first = report; plans = plans })) None))
    ((Decides-same_session s s).1 refl)

-- the first report opens it
pub opening-none : (plans : List Plan) (history : History) (report : ReportFacts)
    → first_of (reports history (session_of report)) ≡ None
    → opening_of plans (Accepted (entry.Report report) ∷ history) (session_of report)
    ≡ Some (record { first = report; plans = plans })
opening-none plans history report none =
    let s = session_of report in
    opening-report plans history report
    ∙ ap (λ o. option_or o (Some (record { first = report; plans = plans })))
    (none_opened (opening_of plans history s) (opening-first plans history s ∙ none))

-- a later one leaves it opened as it was
pub opening-later : (plans : List Plan) (history : History) (report first : ReportFacts)
    → first_of (reports history (session_of report)) ≡ Some first
    → opening_of plans (Accepted (entry.Report report) ∷ history) (session_of report)
    ≡ opening_of plans history (session_of report)
opening-later plans history report first is =
    let s = session_of report in
    let opened = some_opened (opening_of plans history s) first
    (opening-first plans history s ∙ is) in
    opening-report plans history report
    ∙ ap (λ o. option_or o (Some (record { first = report; plans = plans }))) opened.1
    ∙ sym opened.1

-- and so does a report of another session
pub opening-other : (plans : List Plan) (history : History) (report : ReportFacts)
    (name : SessionName) → name ≢ session_of report
    → opening_of plans (Accepted (entry.Report report) ∷ history) name
    ≡ opening_of plans history name
opening-other plans history report name other =
    ap (λ b. option_or (opening_of plans history name)
    (cond b (Some (record { first = report; plans = plans })) None))
    (Decides-false (same_session name (session_of report))
    (Decides-same_session name (session_of report)) other)
    ∙ or_none (opening_of plans history name)

-- a session's first report finds the plan of its class
pub plan-first : (plans : List Plan) (history : History) (report : ReportFacts)
    → first_of (reports history (session_of report)) ≡ None
    → plan_of plans (Accepted (entry.Report report) ∷ history) (session_of report)
    ≡ plan_for plans report.class
plan-first plans history report none =
    ap (option_and_then plan_opened) (opening-none plans history report none)

-- a later one leaves the plan as it is
pub plan-later : (plans : List Plan) (history : History) (report first : ReportFacts)
    → first_of (reports history (session_of report)) ≡ Some first
    → plan_of plans (Accepted (entry.Report report) ∷ history) (session_of report)
    ≡ plan_of plans history (session_of report)
plan-later plans history report first is =
    ap (option_and_then plan_opened) (opening-later plans history report first is)

-- and so does a report of another session
pub plan-other : (plans : List Plan) (history : History) (report : ReportFacts)
    (name : SessionName) → name ≢ session_of report
    → plan_of plans (Accepted (entry.Report report) ∷ history) name ≡ plan_of plans history name
plan-other plans history report name other =
    ap (option_and_then plan_opened) (opening-other plans history report name other)

-- ---- what a session costs after a report

-- another session costs what it cost
pub charge-other : (plans : List Plan) (history : History) (report : ReportFacts)
    (name : SessionName) → name ≢ session_of report
    → charge_of plans (Accepted (entry.Report report) ∷ history) name ≡ charge_of plans history name
charge-other plans history report name other =
    λ i. cost_of (plan-other plans history report name other i)
    (reports-other history report name other i)

-- its own session costs what its reports cost by its plan
pub charge-own : (plans : List Plan) (history : History) (report : ReportFacts)
    → charge_of plans (Accepted (entry.Report report) ∷ history) (session_of report)
    ≡ cost_of (plan_of plans (Accepted (entry.Report report) ∷ history) (session_of report))
    (report ∷ reports history (session_of report))
charge-own plans history report =
    ap (cost_of (plan_of plans (Accepted (entry.Report report) ∷ history) (session_of report)))
    (reports-own history report)

-- and by its plan from before, if there was a report of it
pub charge-later : (plans : List Plan) (history : History) (report first : ReportFacts)
    → first_of (reports history (session_of report)) ≡ Some first
    → charge_of plans (Accepted (entry.Report report) ∷ history) (session_of report)
    ≡ cost_of (plan_of plans history (session_of report))
    (report ∷ reports history (session_of report))
charge-later plans history report first is =
    charge-own plans history report
    ∙ ap (λ plan. cost_of plan (report ∷ reports history (session_of report)))
    (plan-later plans history report first is)

-- ---- what the report's session costs an account

-- what the session of a report costs an account before and after the report
abbrev pub cost_before : List Plan → History → ReportFacts → List ℕ → ℕ
cost_before plans history report account =
    share account (first_of (reports history (session_of report)))
    (charge_of plans history (session_of report))

abbrev pub cost_after : List Plan → History → ReportFacts → List ℕ → ℕ
cost_after plans history report account =
    share account (first_of (report ∷ reports history (session_of report)))
    (charge_of plans (Accepted (entry.Report report) ∷ history) (session_of report))

-- A report changes what its own session costs, and nothing else.
pub charged-report : (plans : List Plan) (history : History) (report : ReportFacts)
    (account : List ℕ)
    → charged plans (Accepted (entry.Report report) ∷ history) account
    + cost_before plans history report account
    ≡ charged plans history account + cost_after plans history report account
charged-report plans history report account =
    owned-report (charge_of plans history)
    (charge_of plans (Accepted (entry.Report report) ∷ history)) history report account
    (charge-other plans history report)

-- An account's balance moves by the difference of what the report's session costs it.
pub balance-report : (plans : List Plan) (history : History) (report : ReportFacts)
    (account : List ℕ)
    → balance_of plans (Accepted (entry.Report report) ∷ history) account
    ≡ (balance_of plans history account +ℤ pos (cost_before plans history report account))
    -ℤ pos (cost_after plans history report account)
balance-report plans history report account =
    moved (credited history account)
    (charged plans (Accepted (entry.Report report) ∷ history) account)
    (cost_before plans history report account) (charged plans history account)
    (cost_after plans history report account) (charged-report plans history report account)
  where
    moved : (credit new before old after : ℕ) → new + before ≡ old + after
        → pos credit -ℤ pos new ≡ ((pos credit -ℤ pos old) +ℤ pos before) -ℤ pos after
    moved credit new before old after h = omega (arith, ints)

-- ---- what a report's session costs after it

-- if the session's first report was there before: the costs before and after by one plan
pub before-known : (plans : List Plan) (history : History) (report first : ReportFacts)
    (account : List ℕ) → first_of (reports history (session_of report)) ≡ Some first
    → cost_before plans history report account
    ≡ cond (bytes_eq account first.user)
    (cost_of (plan_of plans history (session_of report)) (reports history (session_of report))) 0
before-known plans history report first account is =
    ap (λ o. share account o (charge_of plans history (session_of report))) is

pub after-known : (plans : List Plan) (history : History) (report first : ReportFacts)
    (account : List ℕ) → first_of (reports history (session_of report)) ≡ Some first
    → cost_after plans history report account
    ≡ cond (bytes_eq account first.user)
    (cost_of (plan_of plans history (session_of report))
    (report ∷ reports history (session_of report))) 0
after-known plans history report first account is = λ i. share account
    (first_of-more report first (reports history (session_of report)) is i)
    (charge-later plans history report first is i)

-- if there was none, the session cost nothing
pub before-none : (plans : List Plan) (history : History) (report : ReportFacts)
    (account : List ℕ) → first_of (reports history (session_of report)) ≡ None
    → cost_before plans history report account ≡ 0
before-none plans history report account none =
    ap (λ o. share account o (charge_of plans history (session_of report))) none

other_share : (account : List ℕ) (report : ReportFacts) (o : Option ReportFacts)
    → is_owner account (option_or o (Some report)) ≡ false → is_owner account o ≡ false
other_share account report None e = refl
other_share account report (Some first) e = e

-- an account that does not own the session after the report did not own it before
pub share-other : (account : List ℕ) (report : ReportFacts) (rs : List ReportFacts)
    (before after : ℕ)
    → is_owner account (first_of (report ∷ rs)) ≡ false
    → (share account (first_of (report ∷ rs)) after ≡ 0) × (share account (first_of rs) before ≡ 0)
share-other account report rs before after e = (
  ap (λ b. cond b after 0) e,
  ap (λ b. cond b before 0) (other_share account report (first_of rs) e),
)

-- A report moves no balance but its session's owner's.
pub balance-report-other : (plans : List Plan) (history : History) (report : ReportFacts)
    (account : List ℕ)
    → is_owner account (first_of (report ∷ reports history (session_of report))) ≡ false
    → balance_of plans (Accepted (entry.Report report) ∷ history) account
    ≡ balance_of plans history account
balance-report-other plans history report account e =
    let none = share-other account report (reports history (session_of report))
    (charge_of plans history (session_of report))
    (charge_of plans (Accepted (entry.Report report) ∷ history) (session_of report)) e in
    let step = charged-report plans history report account in
    let same : charged plans (Accepted (entry.Report report) ∷ history) account
    ≡ charged plans history account = omega (arith, step, none.0, none.1) in
    ap (λ n. pos (credited history account) -ℤ pos n) same

-- ---- top-ups

pub topups-own : (history : History) (topup : TopUpFacts)
    → topups (Accepted (entry.TopUp topup) ∷ history) topup.account
    ≡ topup ∷ topups history topup.account
topups-own history topup =
    let a = topup.account in
    ap (λ b. cond b (topup ∷ topups history a) (topups history a)) ((Decides-bytes_eq a a).1 refl)

pub topups-other : (history : History) (topup : TopUpFacts) (account : List ℕ)
    → account ≢ topup.account
    → topups (Accepted (entry.TopUp topup) ∷ history) account ≡ topups history account
topups-other history topup account other =
    ap (λ b. cond b (topup ∷ topups history account) (topups history account))
    (Decides-false (bytes_eq account topup.account)
    (Decides-bytes_eq account topup.account) other)

-- A top-up to an account raises what its vouchers give by the sum, unless that voucher is there.
pub credited-topup : (history : History) (topup : TopUpFacts)
    → credited (Accepted (entry.TopUp topup) ∷ history) topup.account + cond
    (list_any (same_voucher (voucher_of topup)) (map voucher_of (topups history topup.account)))
    topup.sum 0
    ≡ credited history topup.account + topup.sum
credited-topup history topup =
    let sums = ap (λ ts. sum_by (λ v. v.1) (distinct same_voucher (map voucher_of ts)))
    (topups-own history topup) in
    let step = sum_by-distinct-more same_voucher Decides-same_voucher (λ v. v.1) (λ v. v.1)
    (voucher_of topup) (λ k other. refl) (map voucher_of (topups history topup.account)) in
    omega (arith, sums, step)

-- A top-up moves no other account's balance.
pub balance-topup-other : (plans : List Plan) (history : History) (topup : TopUpFacts)
    (account : List ℕ) → account ≢ topup.account
    → balance_of plans (Accepted (entry.TopUp topup) ∷ history) account
    ≡ balance_of plans history account
balance-topup-other plans history topup account other =
    ap (λ ts. pos (sum_by (λ v. v.1) (distinct same_voucher (map voucher_of ts))) -ℤ pos
    (charged plans history account)) (topups-other history topup account other)

by_number : List ℕ → List TopUpFacts → List TopUpFacts
by_number number ts = filter (λ t. bytes_eq number t.voucher) ts

-- no top-up by a number, so no voucher of that number
fresh_among : (voucher : Voucher) (account : List ℕ) (ts : List TopUpFacts)
    → by_number voucher.0 ts ≡ []
    → list_any (same_voucher voucher) (map voucher_of (filter (λ t. bytes_eq account t.account) ts))
    ≡ false
unfolding by_number
fresh_among voucher account [] e = refl
fresh_among voucher account (t ∷ ts) e =
    elim (bytes_eq voucher.0 t.voucher) as (λ r. bytes_eq voucher.0 t.voucher ≡ r
    → cond r (t ∷ by_number voucher.0 ts) (by_number voucher.0 ts) ≡ []
    → list_any (same_voucher voucher)
    (map voucher_of (cond (bytes_eq account t.account)
    (t ∷ filter (λ u. bytes_eq account u.account) ts)
    (filter (λ u. bytes_eq account u.account) ts))) ≡ false) [
      | true ↦ λ is h. cc
      | false ↦ λ is h.
          let rest = fresh_among voucher account ts h in
          elim (bytes_eq account t.account) as (λ b.
          list_any (same_voucher voucher)
          (map voucher_of (cond b (t ∷ filter (λ u. bytes_eq account u.account) ts)
          (filter (λ u. bytes_eq account u.account) ts))) ≡ false) [
            | true ↦ rw (is, rest) refl
            | false ↦ rest
          ]
    ] refl e

-- A top-up by a number that is new raises its account's balance by the sum.
pub balance-topup : (plans : List Plan) (history : History) (topup : TopUpFacts)
    → topup_of history topup.voucher ≡ None
    → balance_of plans (Accepted (entry.TopUp topup) ∷ history) topup.account
    ≡ balance_of plans history topup.account +ℤ pos topup.sum
unfolding by_number
balance-topup plans history topup fresh =
    let none = fresh_among (voucher_of topup) topup.account (all_topups history)
    (first_of-none (filter (λ t. bytes_eq topup.voucher t.voucher) (all_topups history)) fresh)
    in
    let step = credited-topup history topup in
    let raised : credited (Accepted (entry.TopUp topup) ∷ history) topup.account
    ≡ credited history topup.account + topup.sum =
    omega (arith, step, ap (λ b. cond b topup.sum 0) none) in
    more (credited history topup.account)
    (credited (Accepted (entry.TopUp topup) ∷ history) topup.account) topup.sum
    (charged plans history topup.account) raised
  where
    more : (old new amount cost : ℕ) → new ≡ old + amount
        → pos new -ℤ pos cost ≡ (pos old -ℤ pos cost) +ℤ pos amount
    more old new amount cost h = omega (arith, ints)

-- ---- restarts and additions

-- A restart moves no balance.
pub balance-restart : (plans : List Plan) (history : History) (restart : Restart)
    (account : List ℕ)
    → balance_of plans (Accepted (entry.Restart restart) ∷ history) account
    ≡ balance_of plans history account
balance-restart plans history restart account = refl

-- After an addition of plans the balances are those by the plans before it.
pub balance-added : (plans : List Plan) (history : History) (added : List Plan) (account : List ℕ)
    → balance_of plans (PlansAdded added ∷ history) account
    ≡ balance_of (plans_before added plans) history account
balance-added plans history added account = refl
