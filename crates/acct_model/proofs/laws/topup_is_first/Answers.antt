use Rattle.acct_model.proofs.TopUps.{topup_first}
use Rattle.acct_model.proofs.laws.topup_is_first.Goals as goal

pub returns : goal.returns
returns c = topup_first
