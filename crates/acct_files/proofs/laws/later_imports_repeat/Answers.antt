use Rattle.acct_files.proofs.Repeats.{repeats-later}
use Rattle.acct_files.proofs.laws.later_imports_repeat.Goals as goal

pub returns : goal.returns
returns c = repeats-later
