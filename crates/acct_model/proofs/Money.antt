-- What reports, top-ups and restarts do to balances, and what a session costs.
use Rattle.std.proofs.Common.{◌≡◌, ℕ, ◌<◌, ◌≤◌, Bool, true, false, cond, List, ◌∷◌, refl, sym, ◌∙◌}
use Rattle.std.proofs.Common.{ap, arith}
use Rattle.std.proofs.Math.Nat.{mul-le-mul_left}
use Rattle.std.proofs.lemmas.Int.{ints}
use Rattle.std.specs.Prelude.{pos, ◌-ℤ◌, ◌≤ℤ◌, bytes_eq, max, Option, Some, None}
use Rattle.std.specs.List.{find}
use Rattle.std.specs.Option.{option_or, option_and_then}
use Rattle.acct_model.specs.declared.plan.Plan.{Plan}
use Rattle.acct_model.specs.declared.entry.Entry.TheVariants as entry
use Rattle.acct_model.specs.Report.{ReportFacts}
use Rattle.acct_model.specs.Plans.{started_blocks, price_of, price_under, has_class}
use Rattle.acct_model.specs.Plans.{default_class, plan_for}
use Rattle.acct_model.specs.PlanFaults.{plans_fault}
use Rattle.acct_model.specs.History.{Accepted, History, SessionName, session_of, reports, first_of}
use Rattle.acct_model.specs.History.{is_owner, plan_of, kept_class, counted_of, greatest_counted}
use Rattle.acct_model.specs.History.{cost_of, voucher_of, charged, credited}
use Rattle.acct_model.specs.MoneyLaws.{SessionIsCharged, ReportsAreChargedOnce}
use Rattle.acct_model.specs.MoneyLaws.{VouchersAreCreditedOnce, MoneyMovesOnce}
use Rattle.acct_model.proofs.Blocks.{IsLeastBlocks-started}
use Rattle.acct_model.proofs.PlanFaults.{IsPlan-found}
use Rattle.acct_model.proofs.Kept.{plan-kept}
use Rattle.acct_model.proofs.Balances.{reports-own, cost_before, cost_after}
use Rattle.acct_model.proofs.Balances.{charged-report, before-known, after-known, before-none}
use Rattle.acct_model.proofs.Balances.{balance-report-other, balance-topup}
use Rattle.acct_model.proofs.Balances.{balance-topup-other, balance-restart}
use Rattle.acct_model.proofs.Repeats.{cost-same, credited_repeated}
use Rattle.acct_model.proofs.Same.{Decides-bytes_eq, Decides-false}

-- more octets start no fewer blocks
price_of-more : (plan : Plan) (n m : ℕ) → 0 < plan.block → n ≤ m → price_of plan n ≤ price_of plan m
price_of-more plan n m some more =
    let covers = (IsLeastBlocks-started plan.block m some).covers in
    let blocks : started_blocks plan.block n ≤ started_blocks plan.block m =
    (IsLeastBlocks-started plan.block n some).least (started_blocks plan.block m)
    (omega (arith, more, covers)) in
    mul-le-mul_left plan.unit blocks

found_block : (plans : List Plan) (class : List ℕ) (plan : Plan) → plans_fault plans ≡ None
    → (o : Option Plan) → find (has_class class) plans ≡ o
    → option_or o (find (has_class default_class) plans) ≡ Some plan → 0 < plan.block
found_block plans class plan good None is e =
    (IsPlan-found (has_class default_class) plans plan good e).block
found_block plans class plan good (Some other) is e =
    (IsPlan-found (has_class class) plans plan good (is ∙ e)).block

-- the plan of a session has a block
plan-block : (plans : List Plan) (history : History) (name : SessionName) (plan : Plan)
    → plans_fault plans ≡ None → plan_of plans history name ≡ Some plan → 0 < plan.block
plan-block plans history name plan good is =
    block_at (kept_class plans history name) (sym (plan-kept plans history name) ∙ is)
  where
    block_at : (o : Option (List ℕ)) → option_and_then (plan_for plans) o ≡ Some plan
        → 0 < plan.block
    block_at None e = absurd (cc)
    block_at (Some class) e =
        found_block plans class plan good (find (has_class class) plans) refl e

price_under-more : (n m : ℕ) → n ≤ m → (o : Option Plan)
    → ((plan : Plan) → o ≡ Some plan → 0 < plan.block) → price_under o n ≤ price_under o m
price_under-more n m more None some = omega arith
price_under-more n m more (Some plan) some = price_of-more plan n m (some plan refl) more

cond-more : (b : Bool) (n m : ℕ) → n ≤ m → cond b n 0 ≤ cond b m 0
cond-more true n m more = more
cond-more false n m more = omega arith

-- a session costs no less after one more report
cost-more : (plans : List Plan) (history : History) (report : ReportFacts) (account : List ℕ)
    → plans_fault plans ≡ None → (o : Option ReportFacts)
    → first_of (reports history (session_of report)) ≡ o
    → cost_before plans history report account ≤ cost_after plans history report account
cost-more plans history report account good None is =
    omega (arith, before-none plans history report account is)
cost-more plans history report account good (Some first) is =
    let rs = reports history (session_of report) in
    let plan = plan_of plans history (session_of report) in
    let n = counted_of plan report in
    let g = greatest_counted plan rs in
    let more : g ≤ max n g = omega arith in
    let grown = cond-more (bytes_eq account first.user) (cost_of plan rs)
    (cost_of plan (report ∷ rs))
    (price_under-more g (max n g) more plan
    (λ p found. plan-block plans history (session_of report) p good found)) in
    omega (
      arith,
      grown,
      before-known plans history report first account is,
      after-known plans history report first account is,
    )

lower : (credit old new : ℕ) → old ≤ new → (pos credit -ℤ pos new) ≤ℤ (pos credit -ℤ pos old)
lower credit old new more = omega (arith, ints)

pub charged_once : ReportsAreChargedOnce
charged_once = record {
  once = λ plans history report one account listed less.
      let same = cost-same plans history report one account listed less
      (first_of (reports history (session_of report))) refl in
      let step = charged-report plans history report account in
      let still : charged plans (Accepted (entry.Report report) ∷ history) account
      ≡ charged plans history account = omega (arith, step, same) in
      ap (λ n. pos (credited history account) -ℤ pos n) still;
  owner = λ plans history report first account is other.
      let first_is = sym (ap first_of (reports-own history report)) ∙ is in
      let no_owner : bytes_eq account first.user ≡ false =
      Decides-false (bytes_eq account first.user) (Decides-bytes_eq account first.user) other in
      balance-report-other plans history report account (ap (is_owner account) first_is ∙ no_owner);
  none_back = λ plans history report account good.
      let more = cost-more plans history report account good
      (first_of (reports history (session_of report))) refl in
      let step = charged-report plans history report account in
      let grown : charged plans history account
      ≤ charged plans (Accepted (entry.Report report) ∷ history) account =
      omega (arith, step, more) in
      lower (credited history account) (charged plans history account)
      (charged plans (Accepted (entry.Report report) ∷ history) account) grown;
}

pub credited_once : VouchersAreCreditedOnce
credited_once = record {
  credited = balance-topup;
  once = λ plans history topup one account listed number account_is sum_is.
      let same : voucher_of one ≡ voucher_of topup = λ i. (number i, sum_is i) in
      let still = credited_repeated history topup one account listed account_is same in
      ap (λ n. pos n -ℤ pos (charged plans history account)) still;
  owner = balance-topup-other;
}

pub moves_once : MoneyMovesOnce
moves_once = record {
  reports = charged_once;
  topups = credited_once;
  restarts = record {
    moves = balance-restart;
    admissible = λ plans history restart in_range. record { agrees = tt; in_range = in_range };
  };
}

-- what a session costs, by its least blocks
pub session_charged : SessionIsCharged
session_charged plans history name plan planned some =
    let rs = reports history name in
    let n = greatest_counted (Some plan) rs in (
      started_blocks plan.block n,
      IsLeastBlocks-started plan.block n some,
      ap (λ o. cost_of o rs) planned,
    )
