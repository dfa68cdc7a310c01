-- What is said at a login costs at most the balance.
use Rattle.std.proofs.Common.{◌≡◌, ℕ, ◌+◌, ◌*◌, ◌/◌, ◌==◌, ◌<◌, ◌≤◌, min, Bool, true, false}
use Rattle.std.proofs.Common.{cond, List, [], ◌∷◌, refl, sym, ap, ◌∙◌, subst, arith}
use Rattle.std.proofs.lemmas.Int.{ints}
use Rattle.std.proofs.Math.Nat.{mul-le-mul_left}
use Rattle.std.proofs.lemmas.Bool.Decides.{nat_tests}
use Rattle.std.proofs.lemmas.List.Elements.{All-head, All-tail}
use Rattle.std.specs.Prelude.{Option, None, Some, All, ℤ, pos, negsuc, ◌-ℤ◌, ◌≤ℤ◌}
use Rattle.acct_model.specs.declared.plan.Plan.{Plan}
use Rattle.acct_model.specs.declared.entry.Entry.TheVariants as entry
use Rattle.acct_model.specs.Report.{ReportFacts}
use Rattle.acct_model.specs.Plans.{started_blocks, price_of}
use Rattle.acct_model.specs.History.{Accepted, History, SessionName, session_of, reports, first_of}
use Rattle.acct_model.specs.History.{plan_of, greatest_counted, charge_of, cost_of, share, is_owner}
use Rattle.acct_model.specs.History.{charged, credited, balance_of}
use Rattle.acct_model.proofs.Balances.{reports-own, first_of-more, first_of-none, plan-later}
use Rattle.acct_model.proofs.Balances.{charged-report}
use Rattle.acct_model.proofs.Blocks.{IsLeastBlocks-started}
use Rattle.acct_desk_pages.specs.Logins.{credit_of, paid_octets}
use Rattle.acct_desk.specs.LoginLaws.{with_reports, PaidOctetsCostTheBalance, LoginKeepsBalance}

-- ---- prices

blocks-more : (block n m q : ℕ) → 0 < block → m ≤ n + q * block
    → started_blocks block m ≤ started_blocks block n + q
blocks-more block n m q some more =
    let covers = (IsLeastBlocks-started block n some).covers in
    (IsLeastBlocks-started block m some).least (started_blocks block n + q)
    (omega (arith, covers, more))

price-more : (unit block n m q : ℕ) → 0 < block → m ≤ n + q * block
    → unit * started_blocks block m ≤ unit * started_blocks block n + unit * q
price-more unit block n m q some more =
    omega (arith, mul-le-mul_left unit (blocks-more block n m q some more))

-- what a credit pays
pub record Pays (plan : Plan) (credit paid : ℕ) : Type 0 where
  pub priced : 0 < plan.unit
  pub most : paid ≤ credit / plan.unit * plan.block

pays_by : (b : Bool) (plan : Plan) (credit paid : ℕ) → (plan.unit == 0) ≡ b
    → cond b None (Some (min (credit / plan.unit * plan.block) 9223372036854775807)) ≡ Some paid
    → Pays plan credit paid
pays_by true plan credit paid free is = absurd (cc)
pays_by false plan credit paid priced is =
    let same : min (credit / plan.unit * plan.block) 9223372036854775807 ≡ paid = cc in
    record {
      priced = grind (arith, nat_tests);
      most = omega arith;
    }

pays : (plan : Plan) (balance : ℤ) (paid : ℕ) → paid_octets plan balance ≡ Some paid
    → Pays plan (credit_of balance) paid
pays plan balance paid is = pays_by (plan.unit == 0) plan (credit_of balance) paid refl is

units-credit : (unit credit : ℕ) → 0 < unit → unit * (credit / unit) ≤ credit
units-credit unit credit some = omega arith

pub paid_costs_balance : PaidOctetsCostTheBalance
paid_costs_balance plan balance paid before after some is more =
    let by = pays plan balance paid is in
    let most = by.most in
    let within : after ≤ before + credit_of balance / plan.unit * plan.block =
    omega (arith, more, most) in
    let dearer = price-more plan.unit plan.block before after (credit_of balance / plan.unit) some
    within in
    let units = units-credit plan.unit (credit_of balance) by.priced in
    omega (arith, dearer, units)

-- ---- reports of one session

-- what a session costs an account
abbrev cost : List Plan → List ℕ → SessionName → History → ℕ
cost plans account name history =
    share account (first_of (reports history name)) (charge_of plans history name)

cost-own : (plans : List Plan) (account : List ℕ) (history : History) (report : ReportFacts)
    → cost plans account (session_of report) (Accepted (entry.Report report) ∷ history)
    ≡ share account (first_of (report ∷ reports history (session_of report)))
    (charge_of plans (Accepted (entry.Report report) ∷ history) (session_of report))
cost-own plans account history report =
    ap (λ rs. share account (first_of rs)
    (charge_of plans (Accepted (entry.Report report) ∷ history) (session_of report)))
    (reports-own history report)

charged-one : (plans : List Plan) (account : List ℕ) (history : History) (report : ReportFacts)
    (name : SessionName) → session_of report ≡ name
    → charged plans (Accepted (entry.Report report) ∷ history) account
    + cost plans account name history
    ≡ charged plans history account
    + cost plans account name (Accepted (entry.Report report) ∷ history)
charged-one plans account history report name is =
    subst (λ s. charged plans (Accepted (entry.Report report) ∷ history) account
    + cost plans account s history
    ≡ charged plans history account
    + cost plans account s (Accepted (entry.Report report) ∷ history)) is
    (charged-report plans history report account
    ∙ ap (λ n. charged plans history account + n) (sym (cost-own plans account history report)))

-- the account is charged what the session costs more
charged-run : (plans : List Plan) (account : List ℕ) (history : History) (name : SessionName)
    (later : List ReportFacts) → All (λ report. session_of report ≡ name) later
    → charged plans (with_reports later history) account + cost plans account name history
    ≡ charged plans history account + cost plans account name (with_reports later history)
charged-run plans account history name [] all = refl
charged-run plans account history name (report ∷ later) all =
    let step = charged-one plans account (with_reports later history) report name
    (All-head (λ r. session_of r ≡ name) report later all) in
    let rest = charged-run plans account history name later
    (All-tail (λ r. session_of r ≡ name) report later all) in
    omega (arith, step, rest)

credited-run : (account : List ℕ) (history : History) (later : List ReportFacts)
    → credited (with_reports later history) account ≡ credited history account
credited-run account history [] = refl
credited-run account history (report ∷ later) = credited-run account history later

-- the first report stays the first, and the plan stays
first-one : (history : History) (report first : ReportFacts) (name : SessionName)
    → session_of report ≡ name → first_of (reports history name) ≡ Some first
    → first_of (reports (Accepted (entry.Report report) ∷ history) name) ≡ Some first
first-one history report first name is had =
    subst (λ s. first_of (reports history s) ≡ Some first
    → first_of (reports (Accepted (entry.Report report) ∷ history) s) ≡ Some first) is
    (λ was. ap first_of (reports-own history report)
    ∙ first_of-more report first (reports history (session_of report)) was) had

first-run : (history : History) (name : SessionName) (first : ReportFacts)
    (later : List ReportFacts) → All (λ report. session_of report ≡ name) later
    → first_of (reports history name) ≡ Some first
    → first_of (reports (with_reports later history) name) ≡ Some first
first-run history name first [] all had = had
first-run history name first (report ∷ later) all had =
    first-one (with_reports later history) report first name
    (All-head (λ r. session_of r ≡ name) report later all)
    (first-run history name first later (All-tail (λ r. session_of r ≡ name) report later all) had)

plan-one : (plans : List Plan) (history : History) (report first : ReportFacts)
    (name : SessionName) → session_of report ≡ name → first_of (reports history name) ≡ Some first
    → plan_of plans (Accepted (entry.Report report) ∷ history) name ≡ plan_of plans history name
plan-one plans history report first name is had =
    subst (λ s. first_of (reports history s) ≡ Some first
    → plan_of plans (Accepted (entry.Report report) ∷ history) s ≡ plan_of plans history s) is
    (plan-later plans history report first) had

plan-run : (plans : List Plan) (history : History) (name : SessionName) (first : ReportFacts)
    (later : List ReportFacts) → All (λ report. session_of report ≡ name) later
    → first_of (reports history name) ≡ Some first
    → plan_of plans (with_reports later history) name ≡ plan_of plans history name
plan-run plans history name first [] all had = refl
plan-run plans history name first (report ∷ later) all had =
    let rest = All-tail (λ r. session_of r ≡ name) report later all in
    plan-one plans (with_reports later history) report first name
    (All-head (λ r. session_of r ≡ name) report later all)
    (first-run history name first later rest had)
    ∙ plan-run plans history name first later rest had

-- ---- the balance

free-none : (plan : Plan) → 0 < plan.block → price_of plan 0 ≡ 0
free-none plan some =
    let none : started_blocks plan.block 0 ≤ 0 = (IsLeastBlocks-started plan.block 0 some).least 0
    (omega arith) in
    let zero_blocks : started_blocks plan.block 0 ≡ 0 = omega arith in
    ap (λ n. plan.unit * n) zero_blocks ∙ (let z : plan.unit * 0 ≡ 0 = omega arith in z)

-- the price of what the session had counted is at most what it cost its owner
cost-before : (plans : List Plan) (account : List ℕ) (history : History) (name : SessionName)
    (plan : Plan) (later : List ReportFacts) → 0 < plan.block
    → All (λ report. session_of report ≡ name) later
    → plan_of plans (with_reports later history) name ≡ Some plan
    → is_owner account (first_of (reports (with_reports later history) name)) ≡ true
    → (o : Option ReportFacts) → first_of (reports history name) ≡ o
    → price_of plan (greatest_counted (Some plan) (reports history name))
    ≤ cost plans account name history
cost-before plans account history name plan later some all is owns None none =
    let free = ap (λ rs. price_of plan (greatest_counted (Some plan) rs))
    (first_of-none (reports history name) none) ∙ free-none plan some in
    omega (arith, free)
cost-before plans account history name plan later some all is owns (Some first) had =
    let planned = sym (plan-run plans history name first later all had) ∙ is in
    let owner = ap (is_owner account) (sym (first-run history name first later all had)) ∙ owns in
    let costs : cost plans account name history
    ≡ price_of plan (greatest_counted (Some plan) (reports history name)) =
    ap (λ o. share account o (charge_of plans history name)) had
    ∙ ap (λ b. cond b (charge_of plans history name) 0) owner
    ∙ ap (λ o. cost_of o (reports history name)) planned in
    omega (arith, costs)

-- the session costs at most the credit more
cost-after : (plans : List Plan) (account : List ℕ) (history : History) (name : SessionName)
    (plan : Plan) (later : List ReportFacts) (credit : ℕ) → 0 < plan.block
    → All (λ report. session_of report ≡ name) later
    → plan_of plans (with_reports later history) name ≡ Some plan
    → price_of plan (greatest_counted (Some plan) (reports (with_reports later history) name))
    ≤ price_of plan (greatest_counted (Some plan) (reports history name)) + credit
    → (b : Bool) → is_owner account (first_of (reports (with_reports later history) name)) ≡ b
    → cost plans account name (with_reports later history)
    ≤ cost plans account name history + credit
cost-after plans account history name plan later credit some all is more false other =
    let none = ap (λ b. cond b (charge_of plans (with_reports later history) name) 0) other in
    omega (arith, none)
cost-after plans account history name plan later credit some all is more true owns =
    let now : cost plans account name (with_reports later history)
    ≡ price_of plan (greatest_counted (Some plan) (reports (with_reports later history) name)) =
    ap (λ b. cond b (charge_of plans (with_reports later history) name) 0) owns
    ∙ ap (λ o. cost_of o (reports (with_reports later history) name)) is in
    let before = cost-before plans account history name plan later some all is owns
    (first_of (reports history name)) refl in
    omega (arith, now, before, more)

credit-is : (z : ℤ) → pos 0 ≤ℤ z → z ≡ pos (credit_of z)
credit-is (pos n) h = refl
credit-is (negsuc n) h = absurd (omega (arith, ints, h))

still : (credit charge was cost costs more : ℕ) → charge + cost ≡ was + costs
    → costs ≤ cost + more → pos credit -ℤ pos was ≡ pos more
    → pos 0 ≤ℤ (pos credit -ℤ pos charge)
still credit charge was cost costs more same most is = omega (arith, ints)

pub login_keeps_balance : LoginKeepsBalance
login_keeps_balance plans history account name plan paid later all is some enough said rise =
    let balance = balance_of plans history account in
    let dearer = paid_costs_balance plan balance paid
    (greatest_counted (Some plan) (reports history name))
    (greatest_counted (Some plan) (reports (with_reports later history) name)) some said rise in
    let costs = cost-after plans account history name plan later (credit_of balance) some all is
    dearer (is_owner account (first_of (reports (with_reports later history) name))) refl in
    subst (λ c. pos 0 ≤ℤ (pos c -ℤ pos (charged plans (with_reports later history) account)))
    (sym (credited-run account history later))
    (still (credited history account) (charged plans (with_reports later history) account)
    (charged plans history account) (cost plans account name history)
    (cost plans account name (with_reports later history)) (credit_of balance)
    (charged-run plans account history name later all) costs (credit-is balance enough))
