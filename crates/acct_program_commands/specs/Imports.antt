-- What `import` prints, and its exit status.
use Rattle.std.specs.Prelude.{ℕ, List, [], ◌∷◌, ◌++◌, Option, None, Some, ◌≡◌, codes, decimal}
use Rattle.std.specs.Prelude.{length}
use Rattle.std.specs.Prelude.{flat_map, Result, IfOk, IfErr}
use Rattle.std.specs.Io.KnownBytes.{Appends}
use Rattle.acct_model.specs.declared.plan.Plan.{Plan}
use Rattle.acct_model.specs.History.{History}
use Rattle.acct_book.specs.declared.book.Book.{Ghosts}
use Rattle.acct_book.specs.Step.{StoodFor}
use Rattle.acct_files.specs.Importing.{Imports, KeepsOpen, unmarked}
use Rattle.acct_files.specs.Reports.{cause_text, stop_text}
use Rattle.acct_files.specs.declared.import_report.Refused.{Refused}
use Rattle.acct_files.specs.declared.import_report.Stopped.{Stopped}
use Rattle.acct_files.specs.declared.import_report.Stopped.TheVariants as stop
use Rattle.acct_files.specs.declared.import_report.ImportReport.{ImportReport}
use Rattle.acct_program_commands.specs.declared.fault.Fault.{Fault}
use Rattle.acct_program_commands.specs.declared.fault.Fault.TheVariants as fault
use Rattle.acct_program.specs.declared.status.Status.{Status}
use Rattle.acct_program.specs.declared.status.Status.TheVariants as status

-- `added A, repeated R, refused N`
abbrev pub counted_line : ImportReport → List ℕ
counted_line report =
    codes "added " ++ decimal report.added ++ codes ", repeated " ++ decimal report.repeated
    ++ codes ", refused " ++ decimal (length report.refused) ++ 10 ∷ []

-- `NUMBER: CAUSE`
abbrev pub refused_line : Refused → List ℕ
refused_line refused = decimal refused.number ++ codes ": " ++ cause_text refused.cause ++ 10 ∷ []

-- `stopped: WHY`, if the import stopped
abbrev pub stopped_line : Option Stopped → List ℕ
stopped_line None = []
stopped_line (Some why) = codes "stopped: " ++ stop_text why ++ 10 ∷ []

-- all lines of a report
abbrev pub report_text : ImportReport → List ℕ
report_text report =
    counted_line report ++ flat_map refused_line report.refused ++ stopped_line report.stopped

abbrev pub stopped_status : Option Stopped → List Refused → Status
stopped_status None [] = status.Done
stopped_status None (refused ∷ others) = status.Refused
stopped_status (Some stop.BadHeader) refused = status.Refused
stopped_status (Some stop.Unreadable) refused = status.Refused
stopped_status (Some stop.Unavailable) refused = status.Unavailable
stopped_status (Some stop.Memory) refused = status.Refused
stopped_status (Some stop.TooMany) refused = status.Refused

-- the exit status of an import
abbrev pub report_status : ImportReport → Status
report_status report = stopped_status report.stopped report.refused

-- the report was printed, and the exit status is its own
abbrev pub Tells : ImportReport → Option (List ℕ) → Option (List ℕ) → Status → Type 0
Tells report before after ended =
    (ended ≡ report_status report) × Appends before after (report_text report)

-- A run of an import with its report, which is printed if the output accepts it.
module _ {B : Type 0} (b : Ghosts B) where
  pub record Runs (plans : List Plan) (moment : ℕ) (text : Option (List ℕ)) (old new : B)
      (before after : Option (List ℕ)) (ended : Result Status Fault) : Type 0 where
    pub report : ImportReport
    pub keeps : KeepsOpen b report.stopped report.added old new
    pub imports : b.is_sound new → (history : History)
        → StoodFor b plans old history
        → Imports b plans moment (unmarked text) history
        report.stopped report old new
    pub tells : IfOk ended (Tells report before after)
    -- only the output can end it with a fault
    pub why : IfErr ended (λ told. told ≡ fault.CannotWrite)
