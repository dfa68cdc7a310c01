use Rattle.acct_service.proofs.Ages.{carried_stay}
use Rattle.acct_service.proofs.laws.carried_stay_carried.Goals as goal

pub returns : goal.returns
returns c = carried_stay
