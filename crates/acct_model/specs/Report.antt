-- What a report says.
use Rattle.std.specs.Prelude.{ℕ, ◌+◌, ◌<◌, ◌^◌, List, Option}
use Rattle.acct_model.specs.declared.report.ReportKind.{ReportKind}

-- a report: who sent it of which session, and what it says (RFC 2866, section 5)
pub record ReportFacts : Type 0 where
  pub client : List ℕ
  pub session : List ℕ
  pub user : List ℕ
  pub class : List ℕ
  pub kind : ReportKind
  pub input : ℕ
  pub output : ℕ
  pub seconds : ℕ
  pub when : ℕ
  pub cause : ℕ
  pub calling : List ℕ
  pub framed : Option (List ℕ)

-- what each report keeps: its octets are below 2^63 together, and its moment is below 2^53
pub record IsReport (input output when : ℕ) : Type 0 where
  pub total_fits : input + output < 2 ^ 63
  pub when_fits : when < 2 ^ 53

-- input and output together, in octets
abbrev pub total : ReportFacts → ℕ
total report = report.input + report.output
