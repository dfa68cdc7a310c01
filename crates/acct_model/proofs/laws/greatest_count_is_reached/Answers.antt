use Rattle.acct_model.proofs.Members.{greatest_reached}
use Rattle.acct_model.proofs.laws.greatest_count_is_reached.Goals as goal

pub returns : goal.returns
returns c = greatest_reached
