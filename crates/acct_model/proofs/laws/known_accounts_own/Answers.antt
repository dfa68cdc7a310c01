use Rattle.acct_model.proofs.Members.{known_own}
use Rattle.acct_model.proofs.laws.known_accounts_own.Goals as goal

pub returns : goal.returns
returns c = known_own
