use Rattle.acct_desk.proofs.PartLemmas.{me-from-part}
use Rattle.acct_desk.proofs.laws.me_from_part.Goals as goal

pub returns : goal.returns
returns c = me-from-part
