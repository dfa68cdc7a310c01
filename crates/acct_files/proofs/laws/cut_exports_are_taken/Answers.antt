use Rattle.acct_files.proofs.CutExports.{cut-is-taken}
use Rattle.acct_files.proofs.laws.cut_exports_are_taken.Goals as goal

pub returns : goal.returns
returns c = cut-is-taken
