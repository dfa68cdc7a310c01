use Rattle.acct_desk.proofs.PartLaws.{parts_are_whole}
use Rattle.acct_desk.proofs.laws.parts_are_whole.Goals as goal

pub returns : goal.returns
returns c = parts_are_whole
