use Rattle.acct_desk.proofs.ToldStamps.{told_stamps_are_read}
use Rattle.acct_desk.proofs.laws.told_stamps_are_read.Goals as goal

pub returns : goal.returns
returns c = told_stamps_are_read
