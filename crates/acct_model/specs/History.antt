-- What a history says of sessions, vouchers and balances.
--
-- A history is the list of what was accepted and of the plans that were added, **the newest
-- first**. With one more entry e a history H is Accepted e ∷ H, and what was accepted first is
-- deepest. It holds no totals and no balances: each is computed only from its members. The plans
-- given with a history are those in force at its end. Before an addition they are these without the
-- added ones.
use Rattle.std.specs.Prelude.{◌≡◌, ℕ, ◌^◌, max, Bool, false, ◌&&◌, ◌||◌, Option, None, Some, List}
use Rattle.std.specs.Prelude.{[], ◌∷◌, if◌then◌else◌, map, ℤ, pos, ◌-ℤ◌, ◌≤ℤ◌, ◌==◌, bytes_eq}
use Rattle.std.specs.Prelude.{option_map}
use Rattle.std.specs.List.{All, filter, filter_map, list_any, sum_by}
use Rattle.std.specs.Option.{option_or, option_and_then}
use Rattle.acct_model.specs.declared.plan.Plan.{Plan}
use Rattle.acct_model.specs.declared.entry.Entry.{Entry}
use Rattle.acct_model.specs.declared.entry.Entry.TheVariants as entry
use Rattle.acct_model.specs.Report.{ReportFacts}
use Rattle.acct_model.specs.Vouchers.{TopUpFacts}
use Rattle.acct_model.specs.Plans.{plan_for, plan_class, plans_before, counted_under, price_under}

-- what a history is made of
pub data Member : Type 0 where
  -- an entry was accepted
  Accepted : Entry → Member
  -- these plans were added
  PlansAdded : List Plan → Member

abbrev pub History : Type 0
History = List Member

-- the plans in force before all these later members
abbrev pub plans_then : List Plan → History → List Plan
plans_then plans [] = plans
plans_then plans (Accepted next ∷ later) = plans_then plans later
plans_then plans (PlansAdded added ∷ later) = plans_then (plans_before added plans) later

-- ---- sessions

-- a session is named by its client and its session id (RFC 2866, section 5.5)
pub record SessionName : Type 0 where
  pub client : List ℕ
  pub session : List ℕ

-- the session that a report is of
abbrev pub session_of : ReportFacts → SessionName
session_of report = record { client = report.client; session = report.session }

-- two names are of one session
abbrev pub same_session : SessionName → SessionName → Bool
same_session a b = bytes_eq a.client b.client && bytes_eq a.session b.session

-- the report that an entry is, if it is one
abbrev pub report_by : Entry → Option ReportFacts
report_by (entry.Report report) = Some report
report_by (entry.Restart restart) = None
report_by (entry.TopUp topup) = None

-- the report that a member is, if it is one
abbrev pub report_in : Member → Option ReportFacts
report_in (Accepted next) = report_by next
report_in (PlansAdded plans) = None

-- all reports of a history
abbrev pub all_reports : History → List ReportFacts
all_reports history = filter_map report_in history

-- the reports of one session
abbrev pub reports : History → SessionName → List ReportFacts
reports history name =
    filter (λ report. same_session name (session_of report)) (all_reports history)

-- each element once: one that occurs again deeper in the list is left out
abbrev pub distinct : {X : Type 0} → (X → X → Bool) → List X → List X
distinct same [] = []
distinct same (x ∷ xs) = if list_any (same x) xs then distinct same xs else x ∷ distinct same xs

-- the sessions that have a report, each once
abbrev pub sessions : History → List SessionName
sessions history = distinct same_session (map session_of (all_reports history))

-- what was accepted first, which is deepest
abbrev pub first_of : {X : Type 0} → List X → Option X
first_of [] = None
first_of (x ∷ older) = option_or (first_of older) (Some x)

-- the largest of some numbers, 0 of none
abbrev pub largest : List ℕ → ℕ
largest [] = 0
largest (n ∷ ns) = max n (largest ns)

-- ---- what a session costs

-- the account that a session is charged to is the user of its first report
abbrev pub is_owner : List ℕ → Option ReportFacts → Bool
is_owner account None = false
is_owner account (Some first) = bytes_eq account first.user

-- a session's first report, and the plans that were in force before it
pub record Opening : Type 0 where
  pub first : ReportFacts
  pub plans : List Plan

-- a session opens with this report, if it is one of it
abbrev pub opened_by : List Plan → SessionName → ReportFacts → Option Opening
opened_by plans name report =
    if same_session name (session_of report)
    then Some (record { first = report; plans = plans }) else None

-- how a session was opened: the plans given are those in force at the end of the history, and older
-- ones are found from them
abbrev pub opening_of : List Plan → History → SessionName → Option Opening
opening_of plans [] name = None
opening_of plans (Accepted (entry.Report report) ∷ older) name =
    option_or (opening_of plans older name) (opened_by plans name report)
opening_of plans (Accepted (entry.Restart restart) ∷ older) name = opening_of plans older name
opening_of plans (Accepted (entry.TopUp topup) ∷ older) name = opening_of plans older name
opening_of plans (PlansAdded added ∷ older) name = opening_of (plans_before added plans) older name

-- the plan that the class of a first report names, and the class of that plan
abbrev pub plan_opened : Opening → Option Plan
plan_opened opening = plan_for opening.plans opening.first.class

abbrev pub class_opened : Opening → List ℕ
class_opened opening = plan_class opening.plans opening.first.class

-- the plan of a session is the one that the class of its first report named among the plans in
-- force before it
abbrev pub plan_of : List Plan → History → SessionName → Option Plan
plan_of plans history name = option_and_then plan_opened (opening_of plans history name)

-- the class of that plan
abbrev pub kept_class : List Plan → History → SessionName → Option (List ℕ)
kept_class plans history name = option_map class_opened (opening_of plans history name)

-- what a plan counts of a report
abbrev pub counted_of : Option Plan → ReportFacts → ℕ
counted_of plan report = counted_under plan report.input report.output

-- the greatest number that a plan counts of one of these reports
abbrev pub greatest_counted : Option Plan → List ReportFacts → ℕ
greatest_counted plan reports = largest (map (counted_of plan) reports)

-- what the reports of a session cost by its plan: the price of the greatest number that it counts
abbrev pub cost_of : Option Plan → List ReportFacts → ℕ
cost_of plan reports = price_under plan (greatest_counted plan reports)

-- the price of a session
abbrev pub charge_of : List Plan → History → SessionName → ℕ
charge_of plans history name = cost_of (plan_of plans history name) (reports history name)

-- the weight of a session whose first report this is, if the account owns it
abbrev pub share : List ℕ → Option ReportFacts → ℕ → ℕ
share account first weight = if is_owner account first then weight else 0

-- the weights of all sessions that the account owns, added up
abbrev pub owned : (SessionName → ℕ) → History → List ℕ → ℕ
owned weight history account =
    sum_by (λ name. share account (first_of (reports history name)) (weight name))
    (sessions history)

-- what the sessions of an account cost
abbrev pub charged : List Plan → History → List ℕ → ℕ
charged plans history account = owned (charge_of plans history) history account

-- ---- what vouchers credit

-- the top-up that an entry is, if it is one
abbrev pub topup_by : Entry → Option TopUpFacts
topup_by (entry.Report report) = None
topup_by (entry.Restart restart) = None
topup_by (entry.TopUp topup) = Some topup

-- the top-up that a member is, if it is one
abbrev pub topup_in : Member → Option TopUpFacts
topup_in (Accepted next) = topup_by next
topup_in (PlansAdded plans) = None

-- all top-ups of a history
abbrev pub all_topups : History → List TopUpFacts
all_topups history = filter_map topup_in history

-- the top-ups to one account
abbrev pub topups : History → List ℕ → List TopUpFacts
topups history account = filter (λ topup. bytes_eq account topup.account) (all_topups history)

-- the first top-up by a number
abbrev pub topup_of : History → List ℕ → Option TopUpFacts
topup_of history number =
    first_of (filter (λ topup. bytes_eq number topup.voucher) (all_topups history))

-- a voucher is its number and its sum
abbrev pub Voucher : Type 0
Voucher = List ℕ × ℕ

-- the voucher of a top-up
abbrev pub voucher_of : TopUpFacts → Voucher
voucher_of topup = (topup.voucher, topup.sum)

-- two vouchers are one
abbrev pub same_voucher : Voucher → Voucher → Bool
same_voucher a b = bytes_eq a.0 b.0 && a.1 == b.1

-- the vouchers of an account, each once
abbrev pub vouchers : History → List ℕ → List Voucher
vouchers history account = distinct same_voucher (map voucher_of (topups history account))

-- what the vouchers of an account credit
abbrev pub credited : History → List ℕ → ℕ
credited history account = sum_by (λ voucher. voucher.1) (vouchers history account)

-- ---- balances

-- the balance of an account: what its distinct vouchers credit, less the price of the greatest
-- number that the plan of each of its sessions counts
abbrev pub balance_of : List Plan → History → List ℕ → ℤ
balance_of plans history account =
    pos (credited history account) -ℤ pos (charged plans history account)

-- a balance may be kept from -2^62 to 2^62
pub record InRange (balance : ℤ) : Type 0 where
  pub low : (pos 0 -ℤ pos (2 ^ 62)) ≤ℤ balance
  pub high : balance ≤ℤ pos (2 ^ 62)

-- every balance of a history is in range
abbrev pub AreInRange : List Plan → History → Type 0
AreInRange plans history = (account : List ℕ) → InRange (balance_of plans history account)

-- each top-up by this number is to this account and of this sum
abbrev pub Agrees : History → TopUpFacts → Type 0
Agrees history topup =
    All (λ other. other.voucher ≡ topup.voucher
    → (other.account ≡ topup.account) × (other.sum ≡ topup.sum)) (all_topups history)

-- a top-up agrees with all top-ups of the history; other entries always do
abbrev pub AgreesWithAll : History → Entry → Type 0
AgreesWithAll history (entry.Report report) = Unit {0}
AgreesWithAll history (entry.Restart restart) = Unit {0}
AgreesWithAll history (entry.TopUp topup) = Agrees history topup

-- The entry may be accepted: no voucher is received with another account or sum, and every balance
-- stays in range.
pub record Admissible (plans : List Plan) (history : History) (next : Entry) : Type 0 where
  pub agrees : AgreesWithAll history next
  pub in_range : AreInRange plans (Accepted next ∷ history)

-- the account owns a session or a voucher
abbrev pub is_known : History → List ℕ → Bool
is_known history account =
    list_any (λ name. is_owner account (first_of (reports history name))) (sessions history)
    || list_any (λ topup. bytes_eq account topup.account) (all_topups history)
