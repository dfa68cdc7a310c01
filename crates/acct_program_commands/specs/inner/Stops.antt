-- How a command ends if a part of it stopped early.
use Rattle.acct_files.specs.declared.csv_lines.ExportError.{ExportError}
use Rattle.acct_files.specs.declared.csv_lines.ExportError.TheVariants as export
use Rattle.acct_program_commands.specs.declared.audit_command.Stopped.{Stopped}
use Rattle.acct_program_commands.specs.declared.audit_command.Stopped.TheVariants as stopped
use Rattle.acct_program_commands.specs.declared.fault.Fault.{Fault}
use Rattle.acct_program_commands.specs.declared.fault.Fault.TheVariants as fault
use Rattle.acct_program_commands.specs.declared.fault.StoreFault.TheVariants as store

-- why an audit ends
abbrev pub stopped_fault : Stopped → Fault
stopped_fault stopped.Store = fault.Store store.Unavailable
stopped_fault stopped.Memory = fault.NoMemory
stopped_fault stopped.Output = fault.CannotWrite

-- why an export ends
abbrev pub export_fault : ExportError → Fault
export_fault export.Unavailable = fault.Store store.Unavailable
export_fault export.WriteFault = fault.CannotWrite
export_fault export.Memory = fault.StoreMemory
