-- Why a line cannot be read.
use Rattle.acct_model.specs.declared.top_up.TopUpError.{TopUpError}
use Rattle.acct_model.specs.declared.top_up.TopUpError.TheVariants as topup
use Rattle.acct_program_feed.specs.declared.line_fault.LineFault.{LineFault}
use Rattle.acct_program_feed.specs.declared.line_fault.LineFault.TheVariants.{Bad, NoMemory}

-- what is wrong with a line whose top-up has a fault
abbrev pub topup_line_fault : TopUpError → LineFault
topup_line_fault topup.BadVoucher = Bad
topup_line_fault topup.BadAccount = Bad
topup_line_fault topup.BadSum = Bad
topup_line_fault topup.Memory = NoMemory
