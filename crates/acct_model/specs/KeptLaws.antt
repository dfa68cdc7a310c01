-- Laws of plans that are added later, in the subject's own words. A function of the module `laws`
-- has them as its contract.
use Rattle.std.specs.Prelude.{◌≡◌, ℕ, None, List, [], ◌∷◌, ◌++◌}
use Rattle.std.specs.Option.{option_and_then}
use Rattle.acct_model.specs.declared.plan.Plan.{Plan}
use Rattle.acct_model.specs.declared.entry.Entry.TheVariants as entry
use Rattle.acct_model.specs.Report.{ReportFacts}
use Rattle.acct_model.specs.Plans.{plan_for, Extends, plans_added}
use Rattle.acct_model.specs.PlanFaults.{plans_fault}
use Rattle.acct_model.specs.History.{Accepted, PlansAdded, History, SessionName, session_of}
use Rattle.acct_model.specs.History.{reports, plans_then, plan_of, kept_class, balance_of}

-- A session keeps the plan that its first report found, and an addition of plans moves no money.
pub record PlansAreKept : Type 0 where
  -- the plan is the one that the class of the first report named among the plans in force then
  pub found : (plans : List Plan) (later older : History) (report : ReportFacts)
      → reports older (session_of report) ≡ []
      → plan_of plans (later ++ Accepted (entry.Report report) ∷ older) (session_of report)
      ≡ plan_for (plans_then plans later) report.class
  -- and the one in force that has the class that the session keeps
  pub kept : (plans : List Plan) (history : History) (name : SessionName)
      → plan_of plans history name
      ≡ option_and_then (plan_for plans) (kept_class plans history name)
  -- plans that extend the old ones leave every balance as it was by the old ones
  pub added : (old new : List Plan) (history : History) (account : List ℕ)
      → plans_fault old ≡ None → plans_fault new ≡ None → Extends new old
      → balance_of new (PlansAdded (plans_added old new) ∷ history) account
      ≡ balance_of old history account
