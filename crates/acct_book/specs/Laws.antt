-- Laws of rows, in plain words. Functions of the module `laws` have them as their contracts.
use Rattle.std.specs.Prelude.{◌≡◌, ◌≢◌, ◌↔◌, ◌⊎◌, ℕ, ◌≤◌, List, [], ◌∷◌, ◌++◌, Option}
use Rattle.std.specs.Prelude.{Some, None, Contains}
use Rattle.std.specs.List.{All}
use Rattle.acct_model.specs.declared.plan.Plan.{Plan}
use Rattle.acct_model.specs.declared.entry.Entry.TheVariants as entry
use Rattle.acct_model.specs.declared.entry.Restart.{Restart}
use Rattle.acct_model.specs.declared.report.ReportKind.TheVariants.{Stop}
use Rattle.acct_model.specs.Report.{ReportFacts}
use Rattle.acct_model.specs.Plans.{Extends, plans_added}
use Rattle.acct_model.specs.PlanFaults.{plans_fault}
use Rattle.acct_model.specs.History.{Accepted, PlansAdded, History, plans_then}
use Rattle.acct_model.specs.History.{sessions, reports, first_of, plan_of, charge_of}
use Rattle.acct_book.specs.declared.key.Key.{Key}
use Rattle.acct_book.specs.declared.row.SessionState.{SessionState}
use Rattle.acct_book.specs.declared.row.SessionState.TheVariants.{Live, Closed, Stopped}
use Rattle.acct_book.specs.Row.{RowFacts}
use Rattle.acct_book.specs.Content.{Content, key_of, keeping}
use Rattle.acct_book.specs.Stands.{Stands}
use Rattle.acct_book.specs.Charge.{class_of_plan, plan_of_row, charge_of_row}
use Rattle.acct_book.specs.Rows.{name_of, counters, Rank, rank_of, row_of}

-- ---- which rows there are

-- the row of a session is kept under the session's key
abbrev pub RowsHaveTheirKeys : Type 0
RowsHaveTheirKeys = (plans : List Plan) (history : History) (key : Key) (row : RowFacts)
    → row_of plans history key ≡ Some row → key_of row ≡ key

-- there is a row exactly for each session of the history
abbrev pub RowsAreOfSessions : Type 0
RowsAreOfSessions = (plans : List Plan) (history : History) (key : Key)
    → ((row : RowFacts) × (row_of plans history key ≡ Some row))
    ↔ Contains (sessions history) (name_of key)

-- ---- what a row says of its session's reports

-- by what is counted, then by the sum of input and output, and then by the input
pub record IsAtMost (a b : Rank) : Type 0 where
  pub counted : a.counted ≤ b.counted
  pub total : a.counted ≡ b.counted → a.total ≤ b.total
  pub input : a.counted ≡ b.counted → a.total ≡ b.total → a.input ≤ b.input

-- some report has the number, and the number of each report keeps the bounds
pub record IsExtreme (number : ReportFacts → ℕ) (n : ℕ) (Bounds : ℕ → Type 0)
    (all : List ReportFacts) : Type 0 where
  pub said : (report : ReportFacts) × Contains all report × (number report ≡ n)
  pub bounded : All (λ report. Bounds (number report)) all

-- the report is one that keeps a property, and none that was accepted before it keeps it
pub record IsFirstWith (Keeps : ReportFacts → Type 0) (all : List ReportFacts)
    (first : ReportFacts) : Type 0 where
  pub later : List ReportFacts
  pub earlier : List ReportFacts
  pub stands : all ≡ later ++ first ∷ earlier
  pub keeps : Keeps first
  pub none_before : All (λ report. Keeps report → ⊥) earlier

-- the value of the first report that has one, or this empty value if no report has any
abbrev pub IsFirstSaid : {V : Type 0} → (ReportFacts → V) → V → List ReportFacts → V → Type 0
IsFirstSaid value empty all said =
    ((first : ReportFacts) × IsFirstWith (λ report. value report ≢ empty) all first
    × (said ≡ value first))
    ⊎ (All (λ report. value report ≡ empty) all × (said ≡ empty))

-- what a row says of all reports of its session, which has this plan
pub record IsRowOf (its_plan : Option Plan) (all : List ReportFacts) (row : RowFacts) : Type 0 where
  -- account and class are the first report's
  pub first : ReportFacts
  pub is_first : first_of all ≡ Some first
  pub account : row.account ≡ first.user
  pub class : row.class ≡ first.class
  -- and the plan is the one that it found
  pub plan : row.plan ≡ class_of_plan its_plan
  -- input and output are those of one report, and no report is above it
  pub counted : (report : ReportFacts) × Contains all report
      × (counters report ≡ (row.input, row.output))
  pub none_above : All (λ report. IsAtMost (rank_of its_plan (counters report))
      (rank_of its_plan (row.input, row.output))) all
  -- the greatest session time, the least moment and the greatest
  pub longest : IsExtreme (λ report. report.seconds) row.seconds (λ n. n ≤ row.seconds) all
  pub earliest : IsExtreme (λ report. report.when) row.first (λ n. row.first ≤ n) all
  pub latest : IsExtreme (λ report. report.when) row.last (λ n. n ≤ row.last) all
  -- the calling station and the address are those of the first report that says one
  pub calling : IsFirstSaid (λ report. report.calling) [] all row.calling
  pub address : IsFirstSaid (λ report. report.framed) None all row.framed

-- a row says of its session's reports what each field is named for
abbrev pub RowsAreOfReports : Type 0
RowsAreOfReports = (plans : List Plan) (history : History) (key : Key) (row : RowFacts)
    → row_of plans history key ≡ Some row
    → IsRowOf (plan_of plans history (name_of key)) (reports history (name_of key)) row

-- the row of a session says what the session costs
abbrev pub RowsAreCharged : Type 0
RowsAreCharged = (plans : List Plan) (history : History) (key : Key) (row : RowFacts)
    → row_of plans history key ≡ Some row
    → charge_of_row plans row ≡ charge_of plans history (name_of key)

-- ---- how a session ends

-- a Stop of the session was accepted
abbrev pub IsStopped : History → Key → Type 0
IsStopped history key = (stop : ReportFacts) × Contains (reports history (name_of key)) stop
    × (stop.kind ≡ Stop)

-- a restart of the session's client was accepted after some report of the session
abbrev pub IsRestarted : History → Key → Type 0
IsRestarted history key =
    (later : History) × (restart : Restart) × (earlier : History)
    × (history ≡ later ++ Accepted (entry.Restart restart) ∷ earlier)
    × (restart.client ≡ key.client)
    × ((report : ReportFacts) × Contains (reports earlier (name_of key)) report)

-- Stopped if a Stop was accepted, else Closed after a restart of the client, else Live
pub record IsStateOf (history : History) (key : Key) (state : SessionState) : Type 0 where
  pub stopped : (state ≡ Stopped) ↔ IsStopped history key
  pub closed : (state ≡ Closed) ↔ ((IsStopped history key → ⊥) × IsRestarted history key)
  pub live : (state ≡ Live) ↔ ((IsStopped history key → ⊥) × (IsRestarted history key → ⊥))

-- The cause of a stopped session is that of its first Stop, of a closed one 11 (NAS Reboot:
-- RFC 2866, section 5.10), of a live one 0.
pub record IsCauseOf (all : List ReportFacts) (state : SessionState) (cause : ℕ) : Type 0 where
  pub stopped : state ≡ Stopped
      → (stop : ReportFacts) × IsFirstWith (λ report. report.kind ≡ Stop) all stop
      × (cause ≡ stop.cause)
  pub closed : state ≡ Closed → cause ≡ 11
  pub live : state ≡ Live → cause ≡ 0

-- a row says whether and how its session has ended
abbrev pub RowsSayTheirEnds : Type 0
RowsSayTheirEnds = (plans : List Plan) (history : History) (key : Key) (row : RowFacts)
    → row_of plans history key ≡ Some row
    → IsStateOf history key row.state
    × IsCauseOf (reports history (name_of key)) row.state row.cause

-- a session that had ended has ended, and one that was stopped is stopped for the same cause
pub record StaysEnded (before after : RowFacts) : Type 0 where
  pub ended : before.state ≢ Live → after.state ≢ Live
  pub stopped : before.state ≡ Stopped
      → (after.state ≡ Stopped) × (after.cause ≡ before.cause)

-- after any later entries and added plans, a session keeps its row, and an ended one never opens
-- again
abbrev pub EndedStaysEnded : Type 0
EndedStaysEnded = (plans : List Plan) (later history : History) (key : Key) (row : RowFacts)
    → row_of (plans_then plans later) history key ≡ Some row
    → (after : RowFacts) × (row_of plans (later ++ history) key ≡ Some after) × StaysEnded row after

-- ---- plans

-- a row keeps the class of a plan, and the plan in force of that class is the plan of its session
abbrev pub RowsKeepTheirPlans : Type 0
RowsKeepTheirPlans = (plans : List Plan) (history : History) (key : Key) (row : RowFacts)
    → row_of plans history key ≡ Some row
    → plan_of_row plans row ≡ plan_of plans history (name_of key)

-- Plans were added that extend the old ones. A content then stands for the history with the
-- addition, if it stood for the history by the old ones. It is the same content, but if the book
-- keeps a list of plans, that is now the new one.
abbrev pub AdditionsStand : Type 0
AdditionsStand = (old new : List Plan) (content : Content) (history : History)
    → plans_fault old ≡ None → plans_fault new ≡ None → Extends new old
    → Stands old content history
    → Stands new (keeping new content) (PlansAdded (plans_added old new) ∷ history)
