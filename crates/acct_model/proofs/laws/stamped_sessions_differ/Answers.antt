use Rattle.acct_model.proofs.StampLaws.{sessions_differ}
use Rattle.acct_model.proofs.laws.stamped_sessions_differ.Goals as goal

pub returns : goal.returns
returns c = sessions_differ
