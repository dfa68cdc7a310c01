use Rattle.acct_model.proofs.GoOn.{goes_on}
use Rattle.acct_model.proofs.laws.forward_goes_on.Goals as goal

pub returns : goal.returns
returns c = goes_on
