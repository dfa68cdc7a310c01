use Rattle.acct_model.proofs.Members.{sessions_listed}
use Rattle.acct_model.proofs.laws.sessions_are_reported.Goals as goal

pub returns : goal.returns
returns c = sessions_listed
