use Rattle.std.proofs.Common.{rules}
use Rattle.acct_model.proofs.entry_reader.report_fault.Goals as goal

-- The search is kept short: it finds this, and gives up soon on a body that breaks it.
pub returns : goal.returns
returns c = search rules fits 100
