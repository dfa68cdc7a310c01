-- Sessions whose usage is carried forward.
--
-- The reports of such a session are taken out of the history, and one report of another session of
-- the same account and plan is accepted last. It counts the blocks that the session had started
-- more than that session counted before. No definition of a balance, a row or a history changes.
use Rattle.std.specs.Prelude.{◌≡◌, ◌≢◌, ℕ, ◌+◌, ◌*◌, ◌<◌, List, [], ◌∷◌, None, Some, pos}
use Rattle.std.specs.Prelude.{◌+ℤ◌, if◌then◌else◌, Bool, true, false, Contains}
use Rattle.acct_model.specs.declared.plan.Plan.{Plan}
use Rattle.acct_model.specs.declared.entry.Entry.TheVariants as entry
use Rattle.acct_model.specs.Report.{ReportFacts}
use Rattle.acct_model.specs.Plans.{started_blocks}
use Rattle.acct_model.specs.History.{Accepted, PlansAdded, History, SessionName, session_of}
use Rattle.acct_model.specs.History.{same_session, reports, first_of, opening_of, plan_of}
use Rattle.acct_model.specs.History.{counted_of, greatest_counted, charge_of, all_topups}
use Rattle.acct_model.specs.History.{balance_of}
use Rattle.acct_model.specs.History.{is_known}
use Rattle.acct_model.specs.Agreement.{BalancesAreEqual}
use Rattle.acct_model.specs.declared.entry.Entry.{Entry}
use Rattle.acct_model.specs.Plans.{Extends, plans_added}
use Rattle.acct_model.specs.PlanFaults.{plans_fault}

-- the history without the reports of a session
abbrev pub without : SessionName → History → History
without name [] = []
without name (Accepted (entry.Report report) ∷ older) =
    if same_session name (session_of report) then without name older
    else Accepted (entry.Report report) ∷ without name older
without name (Accepted (entry.Restart restart) ∷ older) =
    Accepted (entry.Restart restart) ∷ without name older
without name (Accepted (entry.TopUp topup) ∷ older) =
    Accepted (entry.TopUp topup) ∷ without name older
without name (PlansAdded added ∷ older) = PlansAdded added ∷ without name older

-- What the reports of a session are to a history: its owner's balance is less by the price of the
-- session, and nothing else changes.
pub record SessionsStandAlone : Type 0 where
  -- without the session its owner has its price more
  pub owner : (plans : List Plan) (history : History) (name : SessionName) (first : ReportFacts)
      → first_of (reports history name) ≡ Some first
      → balance_of plans (without name history) first.user
      ≡ balance_of plans history first.user +ℤ pos (charge_of plans history name)
  -- and no other account has another balance
  pub others : (plans : List Plan) (history : History) (name : SessionName) (first : ReportFacts)
      (account : List ℕ)
      → first_of (reports history name) ≡ Some first → account ≢ first.user
      → balance_of plans (without name history) account ≡ balance_of plans history account
  -- there is no report of the session left
  pub gone : (history : History) (name : SessionName)
      → reports (without name history) name ≡ []
  -- each other session has its reports, and was opened as it was
  pub reports : (history : History) (name other : SessionName) → other ≢ name
      → reports (without name history) other ≡ reports history other
  pub openings : (plans : List Plan) (history : History) (name other : SessionName) → other ≢ name
      → opening_of plans (without name history) other ≡ opening_of plans history other
  -- the top-ups are the same
  pub topups : (history : History) (name : SessionName)
      → all_topups (without name history) ≡ all_topups history

-- the history without the reports of these sessions
abbrev pub without_all : List SessionName → History → History
without_all [] history = history
without_all (name ∷ names) history = without_all names (without name history)

-- how many blocks of a plan these sessions have started
abbrev pub blocks_of : Plan → History → List SessionName → ℕ
blocks_of plan history [] = 0
blocks_of plan history (name ∷ names) =
    started_blocks plan.block (greatest_counted (Some plan) (reports history name))
    + blocks_of plan (without name history) names

-- the session is this account's, and priced by this plan
abbrev pub IsOf : List Plan → Plan → List ℕ → History → SessionName → Type 0
IsOf plans plan owner history name =
    (first : ReportFacts) × (first_of (reports history name) ≡ Some first)
    × (first.user ≡ owner) × (plan_of plans history name ≡ Some plan)

abbrev pub AreOf : List Plan → Plan → List ℕ → History → List SessionName → Type 0
AreOf plans plan owner history [] = Unit {0}
AreOf plans plan owner history (name ∷ names) =
    IsOf plans plan owner history name × AreOf plans plan owner (without name history) names

-- The report counts so many blocks of a plan more than its session had counted, all of it whole
-- blocks, for this account.
pub record RaisesBy (plans : List Plan) (history : History) (report : ReportFacts) (plan : Plan)
    (owner : List ℕ) (more : ℕ) : Type 0 where
  pub some : 0 < plan.block
  pub same_plan : plan_of plans (Accepted (entry.Report report) ∷ history) (session_of report)
      ≡ Some plan
  pub into : ReportFacts
  pub into_is : first_of (report ∷ reports history (session_of report)) ≡ Some into
  pub same_owner : into.user ≡ owner
  pub blocks : ℕ
  pub whole : greatest_counted (Some plan) (reports history (session_of report))
      ≡ blocks * plan.block
  pub raised : counted_of (Some plan) report ≡ (blocks + more) * plan.block

-- The report carries these sessions forward, of which there is at least one. It is of a session of
-- their account and plan. It counts the blocks that they had started more than that session counts
-- once they are gone.
pub record CarriesForward (plans : List Plan) (history : History) (name : SessionName)
    (names : List SessionName) (report : ReportFacts) : Type 0 where
  pub plan : Plan
  pub owner : List ℕ
  pub are : AreOf plans plan owner history (name ∷ names)
  pub raises : RaisesBy plans (without_all (name ∷ names) history) report plan owner
      (blocks_of plan history (name ∷ names))

-- the history after it
abbrev pub forwarded : History → List SessionName → ReportFacts → History
forwarded history names report = Accepted (entry.Report report) ∷ without_all names history

-- Carrying sessions forward moves no balance, and the same accounts are known.
pub record ForwardMovesNothing : Type 0 where
  pub balances : (plans : List Plan) (history : History) (name : SessionName)
      (names : List SessionName) (report : ReportFacts)
      → CarriesForward plans history name names report
      → BalancesAreEqual plans (forwarded history (name ∷ names) report) history
  pub known : (plans : List Plan) (history : History) (name : SessionName)
      (names : List SessionName) (report : ReportFacts)
      → CarriesForward plans history name names report → (account : List ℕ)
      → is_known (forwarded history (name ∷ names) report) account ≡ is_known history account

-- ---- batch after batch

-- sessions, of which there is at least one, and the report that carries them forward
pub record Batch : Type 0 where
  pub name : SessionName
  pub names : List SessionName
  pub report : ReportFacts

-- the sessions of a batch
abbrev pub sessions_in : Batch → List SessionName
sessions_in batch = batch.name ∷ batch.names

-- from a history to the one after one batch
abbrev pub CarriesBatch : List Plan → History → Batch → History → Type 0
CarriesBatch plans history batch after =
    CarriesForward plans history batch.name batch.names batch.report
    × (after ≡ forwarded history (sessions_in batch) batch.report)

-- from a history to the one after several
abbrev pub CarriesBatches : List Plan → History → List Batch → History → Type 0
CarriesBatches plans history [] after = after ≡ history
CarriesBatches plans history (batch ∷ batches) after =
    (mid : History) × CarriesBatch plans history batch mid
    × CarriesBatches plans mid batches after

-- ---- what is accepted after

-- Two histories that continue alike: except for the sessions that were set aside they have the same
-- reports and plans. They have the same top-ups, and every account has one balance in both.
pub record GoOnAlike (plans : List Plan) (is_aside : SessionName → Bool)
    (whole kept : History) : Type 0 where
  pub balances : BalancesAreEqual plans whole kept
  pub reports : (name : SessionName) → is_aside name ≡ false
      → reports whole name ≡ reports kept name
  pub planned : (name : SessionName) → is_aside name ≡ false
      → plan_of plans whole name ≡ plan_of plans kept name
  pub topups : all_topups whole ≡ all_topups kept

-- the entry is a report of a session that was set aside
abbrev pub is_of_aside : (SessionName → Bool) → Entry → Bool
is_of_aside is_aside (entry.Report report) = is_aside (session_of report)
is_of_aside is_aside (entry.Restart restart) = false
is_of_aside is_aside (entry.TopUp topup) = false

-- If sessions are carried forward and no report of them is received later, the history continues as
-- the one in which nothing was. Any accepted entry moves the same balances, with any plans added
-- and any sessions carried forward later.
pub record ForwardGoesOn : Type 0 where
  pub begins : (plans : List Plan) (is_aside : SessionName → Bool) (history : History)
      → GoOnAlike plans is_aside history history
  pub accepted : (plans : List Plan) (is_aside : SessionName → Bool) (whole kept : History)
      (next : Entry) → GoOnAlike plans is_aside whole kept → is_of_aside is_aside next ≡ false
      → GoOnAlike plans is_aside (Accepted next ∷ whole) (Accepted next ∷ kept)
  pub added : (old new : List Plan) (is_aside : SessionName → Bool) (whole kept : History)
      → plans_fault old ≡ None → plans_fault new ≡ None → Extends new old
      → GoOnAlike old is_aside whole kept
      → GoOnAlike new is_aside (PlansAdded (plans_added old new) ∷ whole)
      (PlansAdded (plans_added old new) ∷ kept)
  pub forward : (plans : List Plan) (is_aside : SessionName → Bool) (whole kept : History)
      (name : SessionName) (names : List SessionName) (report : ReportFacts)
      → GoOnAlike plans is_aside whole kept
      → CarriesForward plans kept name names report
      → ((gone : SessionName) → Contains (name ∷ names) gone → is_aside gone ≡ true)
      → is_aside (session_of report) ≡ true
      → GoOnAlike plans is_aside whole (forwarded kept (name ∷ names) report)
  -- more may be set aside
  pub more : (plans : List Plan) (is_aside is_more : SessionName → Bool) (whole kept : History)
      → ((name : SessionName) → is_more name ≡ false → is_aside name ≡ false)
      → GoOnAlike plans is_aside whole kept → GoOnAlike plans is_more whole kept
