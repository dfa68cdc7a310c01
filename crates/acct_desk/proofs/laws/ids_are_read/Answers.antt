use Rattle.acct_desk.proofs.OwnIds.{ids_are_read}
use Rattle.acct_desk.proofs.laws.ids_are_read.Goals as goal

pub returns : goal.returns
returns c = ids_are_read
