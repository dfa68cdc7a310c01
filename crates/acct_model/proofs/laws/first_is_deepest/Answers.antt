use Rattle.acct_model.proofs.Members.{first_deepest}
use Rattle.acct_model.proofs.laws.first_is_deepest.Goals as goal

pub returns : goal.returns
returns c = first_deepest
