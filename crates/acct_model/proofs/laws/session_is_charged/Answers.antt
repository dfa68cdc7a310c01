use Rattle.acct_model.proofs.Money.{session_charged}
use Rattle.acct_model.proofs.laws.session_is_charged.Goals as goal

pub returns : goal.returns
returns c = session_charged
