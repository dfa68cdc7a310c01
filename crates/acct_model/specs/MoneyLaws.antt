-- Laws of charges and balances, in the subject's own words. Functions of the module `laws` have
-- them as their contracts.
use Rattle.std.specs.Prelude.{◌≡◌, ◌≢◌, ℕ, ◌*◌, ◌<◌, ◌≤◌, None, Some, List, ◌∷◌, Contains, pos}
use Rattle.std.specs.Prelude.{◌+ℤ◌, ◌≤ℤ◌}
use Rattle.acct_model.specs.declared.plan.Plan.{Plan}
use Rattle.acct_model.specs.declared.entry.Entry.TheVariants as entry
use Rattle.acct_model.specs.declared.entry.Restart.{Restart}
use Rattle.acct_model.specs.Report.{ReportFacts}
use Rattle.acct_model.specs.Vouchers.{TopUpFacts}
use Rattle.acct_model.specs.Plans.{IsLeastBlocks}
use Rattle.acct_model.specs.PlanFaults.{plans_fault}
use Rattle.acct_model.specs.History.{Accepted, History, SessionName, session_of, reports, first_of}
use Rattle.acct_model.specs.History.{plan_of, counted_of, greatest_counted, charge_of, all_topups}
use Rattle.acct_model.specs.History.{topup_of, balance_of, AreInRange, Admissible}

-- A session costs the unit of its plan for each of the least blocks that cover the greatest number
-- that the plan counts of one of its reports.
abbrev pub SessionIsCharged : Type 0
SessionIsCharged = (plans : List Plan) (history : History) (name : SessionName)
    (plan : Plan)
    → plan_of plans history name ≡ Some plan
    → 0 < plan.block
    → (blocks : ℕ)
    × IsLeastBlocks plan.block (greatest_counted (Some plan) (reports history name)) blocks
    × (charge_of plans history name ≡ plan.unit * blocks)

-- What reports do to balances: a report moves only the balance of its session's owner. It moves
-- none if the number that the plan counts was reached before. No report gives money back.
pub record ReportsAreChargedOnce : Type 0 where
  pub once : (plans : List Plan) (history : History) (report one : ReportFacts)
      (account : List ℕ)
      → Contains (reports history (session_of report)) one
      → counted_of (plan_of plans history (session_of report)) report
      ≤ counted_of (plan_of plans history (session_of report)) one
      → balance_of plans (Accepted (entry.Report report) ∷ history) account
      ≡ balance_of plans history account
  pub owner : (plans : List Plan) (history : History) (report first : ReportFacts)
      (account : List ℕ)
      → first_of (reports (Accepted (entry.Report report) ∷ history) (session_of report))
      ≡ Some first
      → account ≢ first.user
      → balance_of plans (Accepted (entry.Report report) ∷ history) account
      ≡ balance_of plans history account
  pub none_back : (plans : List Plan) (history : History) (report : ReportFacts)
      (account : List ℕ) → plans_fault plans ≡ None
      → balance_of plans (Accepted (entry.Report report) ∷ history) account
      ≤ℤ balance_of plans history account

-- What top-ups do to balances: a top-up by a new number raises its account's balance by its sum.
-- One whose number, account and sum are in the history moves none. None moves another account's.
pub record VouchersAreCreditedOnce : Type 0 where
  pub credited : (plans : List Plan) (history : History) (topup : TopUpFacts)
      → topup_of history topup.voucher ≡ None
      → balance_of plans (Accepted (entry.TopUp topup) ∷ history) topup.account
      ≡ balance_of plans history topup.account +ℤ pos topup.sum
  pub once : (plans : List Plan) (history : History) (topup one : TopUpFacts) (account : List ℕ)
      → Contains (all_topups history) one → one.voucher ≡ topup.voucher
      → one.account ≡ topup.account → one.sum ≡ topup.sum
      → balance_of plans (Accepted (entry.TopUp topup) ∷ history) account
      ≡ balance_of plans history account
  pub owner : (plans : List Plan) (history : History) (topup : TopUpFacts) (account : List ℕ)
      → account ≢ topup.account
      → balance_of plans (Accepted (entry.TopUp topup) ∷ history) account
      ≡ balance_of plans history account

-- A restart moves no balance, so it is admissible if the balances are in range.
pub record RestartsMoveNothing : Type 0 where
  pub moves : (plans : List Plan) (history : History) (restart : Restart) (account : List ℕ)
      → balance_of plans (Accepted (entry.Restart restart) ∷ history) account
      ≡ balance_of plans history account
  pub admissible : (plans : List Plan) (history : History) (restart : Restart)
      → AreInRange plans history → Admissible plans history (entry.Restart restart)

-- what reports, top-ups and restarts do to balances
pub record MoneyMovesOnce : Type 0 where
  pub reports : ReportsAreChargedOnce
  pub topups : VouchersAreCreditedOnce
  pub restarts : RestartsMoveNothing
