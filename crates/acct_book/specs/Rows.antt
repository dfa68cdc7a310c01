-- The row of a session, as its history gives it: each field is a greatest, a least or a first.
--
-- A history is newest first, so the first report of a session is the deepest in it.
use Rattle.std.specs.Prelude.{ℕ, ◌+◌, ◌==◌, nat_lt, min, Bool, true, false, ◌&&◌, ◌||◌}
use Rattle.std.specs.Prelude.{if◌then◌else◌, bytes_eq, List, [], ◌∷◌, Option, Some, None, map}
use Rattle.std.specs.Prelude.{is_some, option_map}
use Rattle.std.specs.List.{filter}
use Rattle.std.specs.Option.{option_and_then, option_map_or}
use Rattle.acct_model.specs.declared.report.ReportKind.{ReportKind}
use Rattle.acct_model.specs.declared.report.ReportKind.TheVariants.{Start, Stop, Interim}
use Rattle.acct_model.specs.declared.entry.Entry.TheVariants as entry
use Rattle.acct_model.specs.declared.plan.Plan.{Plan}
use Rattle.acct_model.specs.Report.{ReportFacts}
use Rattle.acct_model.specs.Plans.{counted_under}
use Rattle.acct_model.specs.History.{Accepted, PlansAdded, History}
use Rattle.acct_model.specs.History.{SessionName, reports, first_of, largest, plan_of}
use Rattle.acct_book.specs.declared.key.Key.{Key}
use Rattle.acct_book.specs.declared.row.SessionState.{SessionState}
use Rattle.acct_book.specs.declared.row.SessionState.TheVariants.{Live, Closed, Stopped}
use Rattle.acct_book.specs.Row.{RowFacts}
use Rattle.acct_book.specs.Charge.{class_of_plan}

-- the session that a key names
abbrev pub name_of : Key → SessionName
name_of key = record { client = key.client; session = key.session }

-- ---- what is least and what is greatest

-- the least number of a list that is not empty
abbrev pub smallest : List ℕ → ℕ
smallest [] = 0
smallest (n ∷ []) = n
smallest (n ∷ m ∷ ns) = min n (smallest (m ∷ ns))

-- input and output
abbrev pub counters : ReportFacts → ℕ × ℕ
counters report = (report.input, report.output)

-- of two counters: what the plan counts of them, their sum and their input
pub record Rank : Type 0 where
  pub counted : ℕ
  pub total : ℕ
  pub input : ℕ

abbrev pub rank_of : Option Plan → ℕ × ℕ → Rank
rank_of plan c = record {
  counted = counted_under plan c.0 c.1;
  total = c.0 + c.1;
  input = c.0;
}

-- the first is above the second: by what is counted, then by the sum, and then by the input
abbrev pub is_above : Rank → Rank → Bool
is_above a b =
    nat_lt b.counted a.counted
    || (a.counted == b.counted
    && (nat_lt b.total a.total || (a.total == b.total && nat_lt b.input a.input)))

-- the first counters are above the second
abbrev pub exceeds : Option Plan → ℕ × ℕ → ℕ × ℕ → Bool
exceeds plan a b = is_above (rank_of plan a) (rank_of plan b)

-- the counters that are above the others
abbrev pub higher : Option Plan → ℕ × ℕ → ℕ × ℕ → ℕ × ℕ
higher plan a b = if exceeds plan a b then a else b

-- the greatest counters of the reports
abbrev pub greatest : Option Plan → List ReportFacts → ℕ × ℕ
greatest plan [] = (0, 0)
greatest plan (report ∷ older) = higher plan (counters report) (greatest plan older)

-- ---- the first report that says something

-- the first report that passes a test
abbrev pub first_that : (ReportFacts → Bool) → List ReportFacts → Option ReportFacts
first_that test reports = first_of (filter test reports)

-- a Stop ends its session
abbrev pub is_stop : ReportKind → Bool
is_stop Start = false
is_stop Stop = true
is_stop Interim = false

-- some octets, and not none
abbrev pub has_octets : List ℕ → Bool
has_octets [] = false
has_octets (octet ∷ octets) = true

-- the first Stop
abbrev pub first_stop : List ReportFacts → Option ReportFacts
first_stop reports = first_that (λ report. is_stop report.kind) reports

-- the calling station of the first report that has one, else no octets
abbrev pub calling_of : List ReportFacts → List ℕ
calling_of reports = option_map_or (λ report. report.calling)
    (first_that (λ report. has_octets report.calling) reports) []

-- the address of the first report that has one
abbrev pub framed_of : List ReportFacts → Option (List ℕ)
framed_of reports = option_and_then (λ report. report.framed)
    (first_that (λ report. is_some report.framed) reports)

-- ---- whether a session has ended

-- some restart of the session's client was accepted after some report of the session
abbrev pub is_restarted : History → Key → Bool
is_restarted [] key = false
is_restarted (Accepted (entry.Report report) ∷ older) key = is_restarted older key
is_restarted (Accepted (entry.Restart restart) ∷ older) key =
    (bytes_eq restart.client key.client && is_some (first_of (reports older (name_of key))))
    || is_restarted older key
is_restarted (Accepted (entry.TopUp topup) ∷ older) key = is_restarted older key
is_restarted (PlansAdded plans ∷ older) key = is_restarted older key

-- what the first Stop and a restart make of a session
abbrev pub state_of : Option ReportFacts → Bool → SessionState
state_of (Some stop) restarted = Stopped
state_of None true = Closed
state_of None false = Live

-- the cause of the first Stop, else 11 (NAS Reboot: RFC 2866, section 5.10) after a restart, else 0
abbrev pub cause_of : Option ReportFacts → Bool → ℕ
cause_of (Some stop) restarted = stop.cause
cause_of None true = 11
cause_of None false = 0

-- ---- the row

-- the row of a session by its plan, all its reports and the first of them
abbrev pub row_from : Option Plan → Key → Bool → List ReportFacts → ReportFacts → RowFacts
row_from plan key restarted all first = record {
  client = key.client;
  session = key.session;
  account = first.user;
  class = first.class;
  plan = class_of_plan plan;
  input = (greatest plan all).0;
  output = (greatest plan all).1;
  seconds = largest (map (λ report. report.seconds) all);
  first = smallest (map (λ report. report.when) all);
  last = largest (map (λ report. report.when) all);
  state = state_of (first_stop all) restarted;
  cause = cause_of (first_stop all) restarted;
  calling = calling_of all;
  framed = framed_of all;
}

-- the row of the reports, if there is one
abbrev pub row_of_reports : Option Plan → Key → Bool → List ReportFacts → Option RowFacts
row_of_reports plan key restarted all = option_map (row_from plan key restarted all) (first_of all)

-- the row of a session, if a report of it was accepted
abbrev pub row_of : List Plan → History → Key → Option RowFacts
row_of plans history key = row_of_reports (plan_of plans history (name_of key)) key
    (is_restarted history key) (reports history (name_of key))
