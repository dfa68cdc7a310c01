-- The course of a history in which sessions are carried forward now and then, next to the one in
-- which none were.
use Rattle.std.specs.Prelude.{◌≡◌, ◌≤◌, Bool, false, None, List, [], ◌∷◌, ◌++◌, Contains}
use Rattle.std.specs.List.{list_any}
use Rattle.acct_model.specs.declared.plan.Plan.{Plan}
use Rattle.acct_model.specs.declared.entry.Entry.{Entry}
use Rattle.acct_model.specs.Report.{ReportFacts}
use Rattle.acct_model.specs.Vouchers.{TopUpFacts}
use Rattle.acct_model.specs.Plans.{plan_for, Extends, plans_added}
use Rattle.acct_model.specs.PlanFaults.{plans_fault}
use Rattle.acct_model.specs.History.{Accepted, PlansAdded, History, SessionName, session_of}
use Rattle.acct_model.specs.History.{same_session, all_reports, counted_of, all_topups}
use Rattle.acct_model.specs.Claims.{OfTopUp, topup_claim, claims, IsConsistent, ClaimsNoMore}
use Rattle.acct_model.specs.Agreement.{BalancesAreEqual, AddsForNone}
use Rattle.acct_model.specs.Forward.{is_of_aside, Batch, CarriesBatch, sessions_in}

-- the plans in force, the history in which nothing was carried forward, the one in which sessions
-- were, and the sessions that were set aside by it
pub record Course : Type 0 where
  pub plans : List Plan
  pub whole : History
  pub kept : History
  pub aside : List SessionName

-- the session is one of these
abbrev pub is_among : List SessionName → SessionName → Bool
is_among names name = list_any (same_session name) names

-- what may happen next
pub data Move : Type 0 where
  -- the entry is accepted
  accepts : Entry → Move
  -- plans are added, so that these are in force
  extends : List Plan → Move
  -- a batch of sessions is carried forward
  carries : Batch → Move

-- from one moment to the next: no report is received of a session that was set aside
abbrev pub Moves : Course → Move → Course → Type 0
Moves old (accepts next) new =
    (is_of_aside (is_among old.aside) next ≡ false)
    × (new ≡ record old {
      whole = Accepted next ∷ old.whole;
      kept = Accepted next ∷ old.kept;
    })
Moves old (extends more) new =
    (plans_fault old.plans ≡ None) × (plans_fault more ≡ None) × Extends more old.plans
    × (new ≡ record old {
      plans = more;
      whole = PlansAdded (plans_added old.plans more) ∷ old.whole;
      kept = PlansAdded (plans_added old.plans more) ∷ old.kept;
    })
Moves old (carries batch) new =
    CarriesBatch old.plans old.kept batch new.kept
    × (new ≡ record old {
      kept = new.kept;
      aside = session_of batch.report ∷ sessions_in batch ++ old.aside;
    })

-- move after move
abbrev pub Goes : Course → List Move → Course → Type 0
Goes old [] new = new ≡ old
Goes old (move ∷ moves) new = (mid : Course) × Moves old move mid × Goes mid moves new

-- the course of a book that was made with these plans
abbrev pub begun : List Plan → Course
begun plans = record { plans = plans; whole = []; kept = []; aside = [] }

-- What was sent counts in the end as if nothing had been lost, repeated or reordered, and as if
-- nothing had been carried forward. The sent entries must be consistent, and nothing else accepted.
-- Each top-up must be accepted, and each report covered by an accepted one of its session. Plans are
-- added only for classes that no report accepted before has.
abbrev pub ForwardSettles : Type 0
ForwardSettles = (plans : List Plan) (sent : History) (moves : List Move) (last : Course)
    → Goes (begun plans) moves last
    → AddsForNone last.whole → AddsForNone sent
    → IsConsistent sent → ClaimsNoMore last.whole sent
    → ((topup : TopUpFacts) → Contains (all_topups sent) topup
    → Contains (claims last.whole) (OfTopUp (topup_claim topup)))
    → ((report : ReportFacts) → Contains (all_reports sent) report
    → (other : ReportFacts) × Contains (all_reports last.whole) other
    × (session_of other ≡ session_of report)
    × (counted_of (plan_for last.plans report.class) report
    ≤ counted_of (plan_for last.plans report.class) other))
    → BalancesAreEqual last.plans last.kept sent
