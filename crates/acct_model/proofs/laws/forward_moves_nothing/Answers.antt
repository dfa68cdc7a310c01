use Rattle.acct_model.proofs.Forward.{moves_nothing}
use Rattle.acct_model.proofs.laws.forward_moves_nothing.Goals as goal

pub returns : goal.returns
returns c = moves_nothing
