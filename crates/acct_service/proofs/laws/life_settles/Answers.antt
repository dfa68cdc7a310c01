use Rattle.acct_service.proofs.Settled.{life_settled}
use Rattle.acct_service.proofs.laws.life_settles.Goals as goal

pub returns : goal.returns
returns c = life_settled
