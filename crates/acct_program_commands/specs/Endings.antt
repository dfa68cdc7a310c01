-- The faults that end a command early, and its exit status.
use Rattle.std.specs.Prelude.{ℕ, List, ◌++◌, codes, Result, Ok, Err}
use Rattle.acct_site_config.specs.ErrorText.{error_text}
use Rattle.acct_program_commands.specs.declared.fault.StoreFault.{StoreFault}
use Rattle.acct_program_commands.specs.declared.fault.StoreFault.TheVariants as error
use Rattle.acct_program_commands.specs.declared.fault.Fault.{Fault}
use Rattle.acct_program_commands.specs.declared.fault.Fault.TheVariants as fault
use Rattle.acct_program.specs.declared.status.Status.{Status}
use Rattle.acct_program.specs.declared.status.Status.TheVariants as status

-- the text of what is wrong with a book
abbrev pub store_fault_text : StoreFault → List ℕ
store_fault_text error.NotABook = codes "db: NotABook"
store_fault_text error.PlansDiffer = codes "db: PlansDiffer"
store_fault_text error.WrongSchema = codes "db: WrongSchema"
store_fault_text error.Unavailable = codes "db: Unavailable"

-- the text of a fault
abbrev pub fault_text : Fault → List ℕ
fault_text fault.CannotRead = codes "file: cannot read"
fault_text (fault.Config error) = codes "config: " ++ error_text error
fault_text fault.CannotOpen = codes "db: cannot open"
fault_text (fault.Store why) = store_fault_text why
fault_text fault.StoreMemory = codes "db: Memory"
fault_text fault.CannotBind = codes "socket: cannot bind"
fault_text fault.CannotWrite = codes "cannot write"
fault_text fault.NoMemory = codes "out of memory"
fault_text fault.WouldOverwrite = codes "file: would be overwritten"
fault_text fault.CutoffTooLate = codes "forward: less than 30 days ago"
fault_text fault.CutoffInReach = codes "forward: less than --oldest-report ago"
fault_text fault.ClockAhead =
    codes "forward: no session heard of 1 to 8 days ago; give --yes if the clock is right"
fault_text fault.ClockApart =
    codes "forward: the file is not of the last 7 days; give --yes if the clock is right"
fault_text fault.Unbalanced = codes "db: Unbalanced"

-- the exit status of a command that a fault ends
abbrev pub fault_status : Fault → Status
fault_status fault.CannotRead = status.Refused
fault_status (fault.Config error) = status.Refused
fault_status fault.CannotOpen = status.Unavailable
fault_status (fault.Store why) = status.Unavailable
fault_status fault.StoreMemory = status.Unavailable
fault_status fault.CannotBind = status.Socket
fault_status fault.CannotWrite = status.Refused
fault_status fault.NoMemory = status.Unavailable
fault_status fault.WouldOverwrite = status.Refused
fault_status fault.CutoffTooLate = status.Refused
fault_status fault.CutoffInReach = status.Refused
fault_status fault.ClockAhead = status.Refused
fault_status fault.ClockApart = status.Refused
fault_status fault.Unbalanced = status.Unavailable

-- the exit status of a command
abbrev pub ended_status : Result Status Fault → Status
ended_status (Ok ended) = ended
ended_status (Err why) = fault_status why
