use Rattle.acct_model.proofs.Without.{stand_alone}
use Rattle.acct_model.proofs.laws.sessions_stand_alone.Goals as goal

pub returns : goal.returns
returns c = stand_alone
