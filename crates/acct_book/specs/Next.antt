-- How one more report changes a row. It is for `advance` and what carries sessions forward: what a
-- row is of a history, `Rows` says.
use Rattle.std.specs.Prelude.{ℕ, List, [], ◌∷◌, Option, Some, None, max, min}
use Rattle.std.specs.Option.{option_or}
use Rattle.acct_model.specs.declared.plan.Plan.{Plan}
use Rattle.acct_model.specs.declared.report.ReportKind.{ReportKind}
use Rattle.acct_model.specs.declared.report.ReportKind.TheVariants.{Start, Stop, Interim}
use Rattle.acct_model.specs.Report.{ReportFacts}
use Rattle.acct_book.specs.declared.key.Key.{Key}
use Rattle.acct_book.specs.declared.row.SessionState.{SessionState}
use Rattle.acct_book.specs.declared.row.SessionState.TheVariants.{Live, Closed, Stopped}
use Rattle.acct_model.specs.Plans.{plan_for}
use Rattle.acct_book.specs.Row.{RowFacts}
use Rattle.acct_book.specs.Charge.{class_of_plan, plan_of_row, charge_of_row}
use Rattle.acct_book.specs.Rows.{higher, counters}

-- the key of a report's session
abbrev pub report_key : ReportFacts → Key
report_key report = record { client = report.client; session = report.session }

-- a Stop stops a session
abbrev pub state_after : ReportKind → SessionState → SessionState
state_after Start state = state
state_after Stop state = Stopped
state_after Interim state = state

-- the first Stop gives the cause
abbrev pub cause_after : ReportKind → SessionState → ℕ → ℕ → ℕ
cause_after Start state old new = old
cause_after Interim state old new = old
cause_after Stop Live old new = new
cause_after Stop Closed old new = new
cause_after Stop Stopped old new = old

-- the octets, or the others if there are none
abbrev pub or_octets : List ℕ → List ℕ → List ℕ
or_octets [] others = others
or_octets (octet ∷ octets) others = octet ∷ octets

-- the row of a session's first report, by this plan
abbrev pub first_row : Option Plan → ReportFacts → RowFacts
first_row plan r = record {
  client = r.client;
  session = r.session;
  account = r.user;
  class = r.class;
  plan = class_of_plan plan;
  input = r.input;
  output = r.output;
  seconds = r.seconds;
  first = r.when;
  last = r.when;
  state = state_after r.kind Live;
  cause = cause_after r.kind Live 0 r.cause;
  calling = r.calling;
  framed = r.framed;
}

-- the greater counters
abbrev pub raised_counters : Option Plan → RowFacts → ReportFacts → ℕ × ℕ
raised_counters plan row r = higher plan (counters r) (row.input, row.output)

-- the row after a later report: client, session, account, class and plan stay the first report's
abbrev pub raised_row : Option Plan → RowFacts → ReportFacts → RowFacts
raised_row plan row r = record row {
  input = (raised_counters plan row r).0;
  output = (raised_counters plan row r).1;
  seconds = max r.seconds row.seconds;
  first = min r.when row.first;
  last = max r.when row.last;
  state = state_after r.kind row.state;
  cause = cause_after r.kind row.state row.cause r.cause;
  calling = or_octets row.calling r.calling;
  framed = option_or row.framed r.framed;
}

-- the row after a report of a session with this plan
abbrev pub next_row_by : Option Plan → Option RowFacts → ReportFacts → RowFacts
next_row_by plan None r = first_row plan r
next_row_by plan (Some row) r = raised_row plan row r

-- the plan of the row that was found, or the one that the first report finds
abbrev pub plan_found : List Plan → ReportFacts → Option RowFacts → Option Plan
plan_found plans r None = plan_for plans r.class
plan_found plans r (Some row) = plan_of_row plans row

-- the row after a report
abbrev pub next_row : List Plan → Option RowFacts → ReportFacts → RowFacts
next_row plans found r = next_row_by (plan_found plans r found) found r

-- what a session cost before, which is nothing if it has no row
abbrev pub charge_before : List Plan → Option RowFacts → ℕ
charge_before plans None = 0
charge_before plans (Some row) = charge_of_row plans row
