-- The words of a report.
use Rattle.std.specs.Prelude.{ℕ, List, codes}
use Rattle.acct_files.specs.declared.import_report.Cause.{Cause}
use Rattle.acct_files.specs.declared.import_report.Cause.TheVariants as cause
use Rattle.acct_files.specs.declared.import_report.Stopped.{Stopped}
use Rattle.acct_files.specs.declared.import_report.Stopped.TheVariants as stop

-- the word for why a record is refused
abbrev pub cause_text : Cause → List ℕ
cause_text cause.FieldCount = codes "FieldCount"
cause_text cause.BadVoucher = codes "BadVoucher"
cause_text cause.BadAccount = codes "BadAccount"
cause_text cause.BadSum = codes "BadSum"
cause_text cause.VoucherDiffers = codes "VoucherDiffers"
cause_text cause.BalanceLimit = codes "BalanceLimit"

-- the word for why an import stopped
abbrev pub stop_text : Stopped → List ℕ
stop_text stop.BadHeader = codes "BadHeader"
stop_text stop.Unreadable = codes "Unreadable"
stop_text stop.Unavailable = codes "Unavailable"
stop_text stop.Memory = codes "Memory"
stop_text stop.TooMany = codes "TooMany"
