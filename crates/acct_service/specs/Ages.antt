-- How old a report may be that a server accepts, and what that keeps from being charged again.
use Rattle.std.specs.Prelude.{◌≡◌, ◌⊎◌, ◌+◌, ◌≤◌, ℕ, List, Contains, Some}
use Rattle.acct_model.specs.declared.plan.Plan.{Plan}
use Rattle.acct_model.specs.declared.entry.Entry.TheVariants as entry
use Rattle.acct_model.specs.Report.{ReportFacts}
use Rattle.acct_model.specs.History.{History, session_of, reports}
use Rattle.acct_model.specs.Forward.{Batch, sessions_in}
use Rattle.acct_book.specs.Effect.{Effect, added, failed}
use Rattle.acct_book_forward.specs.Carrying.{SelectionFacts, IsChosen}
use Rattle.acct_service.specs.Machine.{Visit, IsAnswered}

-- the report is the entry that is added, or whose call fails
abbrev pub IsTakenFrom : Effect → ReportFacts → Type 0
IsTakenFrom effect report =
    (effect ≡ added (entry.Report report)) ⊎ (effect ≡ failed (entry.Report report))

-- A report that is added, or whose call fails, is no older than reports may be, if that is limited.
abbrev pub TakesNoneTooOld : Type 0
TakesNoneTooOld = (visit : Visit) (oldest : ℕ) (report : ReportFacts) → IsAnswered visit
    → visit.oldest ≡ Some oldest → IsTakenFrom visit.effect report
    → visit.event.moment ≤ report.when + oldest

-- Sessions were carried forward at a moment, and this visit is later. Both moments of the selection
-- lie as far back as a report may be old. The clock has not gone back since.
pub record IsLaterThan (selection : SelectionFacts) (moment : ℕ) (visit : Visit) : Type 0 where
  pub oldest : ℕ
  pub limited : visit.oldest ≡ Some oldest
  pub ended : selection.ended_before + oldest ≤ moment
  pub silent : selection.silent_before + oldest ≤ moment
  pub clock : moment ≤ visit.event.moment

-- A report of a session that was carried forward is not taken, if its own moment is no later than
-- that of a report of the session that was accepted before. So a copy is not charged again, as long
-- as its delay says how long it waited.
abbrev pub CarriedStayCarried : Type 0
CarriedStayCarried = (selection : SelectionFacts) (plans : List Plan) (history : History)
    (batch : Batch) (accepted report : ReportFacts) (moment : ℕ) (visit : Visit)
    → IsChosen selection plans history batch → Contains (sessions_in batch) (session_of report)
    → Contains (reports history (session_of report)) accepted
    → report.when ≤ accepted.when
    → IsLaterThan selection moment visit → IsAnswered visit
    → ¬ IsTakenFrom visit.effect report
