-- What one record of an import does, and why a run over records stopped.
use Rattle.std.specs.Prelude.{◌≡◌, ℕ}
use Rattle.std.specs.Prelude.{Option, Some, None}
use Rattle.std.specs.Prelude.{Result, Ok, Err}
use Rattle.acct_model.specs.declared.entry.Entry.TheVariants.{TopUp}
use Rattle.acct_model.specs.Vouchers.{TopUpFacts}
use Rattle.acct_book.specs.declared.recording.Recorded.{Recorded}
use Rattle.acct_book.specs.declared.recording.RecordError.{RecordError}
use Rattle.acct_book.specs.declared.recording.Recorded.TheVariants.{New, Repeat}
use Rattle.acct_book.specs.declared.recording.RecordError.TheVariants as error
use Rattle.acct_book.specs.Effect.{Effect, failed}
use Rattle.acct_book.specs.Effect.{unasked}
use Rattle.acct_files.specs.declared.import_report.Cause.TheVariants.{VoucherDiffers, BalanceLimit}
use Rattle.acct_files.specs.declared.import_report.Stopped.{Stopped}
use Rattle.acct_files.specs.declared.import_report.Stopped.TheVariants as stop
use Rattle.acct_files.specs.declared.import_report.Outcome.{Outcome}
use Rattle.acct_files.specs.declared.import_report.Outcome.TheVariants as outcome
use Rattle.acct_files.specs.declared.voucher_record.Fault.{Fault}
use Rattle.acct_files.specs.declared.voucher_record.Fault.TheVariants as fault
use Rattle.acct_files.specs.Vouchers.{Fields, asked_by}
use Rattle.acct_files.specs.Importing.{Becomes}

-- what a record did, by its outcome or by why the import stopped at it
abbrev pub Did : ℕ → Fields → Result Outcome Stopped → Effect → Type 0
Did moment fields (Ok told) effect = Becomes (asked_by moment fields) told effect
Did moment fields (Err stop.Unavailable) effect =
    (topup : TopUpFacts) × (asked_by moment fields ≡ Ok topup) × (effect ≡ failed (TopUp topup))
Did moment fields (Err stop.Memory) effect = effect ≡ unasked
Did moment fields (Err stop.BadHeader) effect = ⊥
Did moment fields (Err stop.Unreadable) effect = ⊥
Did moment fields (Err stop.TooMany) effect = ⊥

-- a fault, as the outcome of a record or as a stop at it
abbrev pub refused_by : Fault → Result Outcome Stopped
refused_by (fault.Refused cause) = Ok (outcome.Refused cause)
refused_by fault.Memory = Err stop.Memory

-- what `record` returns, as the outcome of a record or as a stop at it
abbrev pub told_by : Result Recorded RecordError → Result Outcome Stopped
told_by (Ok New) = Ok outcome.Added
told_by (Ok Repeat) = Ok outcome.Repeated
told_by (Err (error.VoucherDiffers kept)) = Ok (outcome.Refused VoucherDiffers)
told_by (Err (error.BalanceLimit balance)) = Ok (outcome.Refused BalanceLimit)
told_by (Err error.Unavailable) = Err stop.Unavailable

-- why a run stopped, if it did
abbrev pub stop_of : {X : Type 0} → Result X Stopped → Option Stopped
stop_of (Ok done) = None
stop_of (Err stopped) = Some stopped

-- how many vouchers one record added
abbrev pub added_by : Result Outcome Stopped → ℕ
added_by (Ok outcome.Added) = 1
added_by (Ok outcome.Repeated) = 0
added_by (Ok (outcome.Refused cause)) = 0
added_by (Err stopped) = 0
