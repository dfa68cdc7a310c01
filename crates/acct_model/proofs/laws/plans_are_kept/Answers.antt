use Rattle.acct_model.proofs.KeptLaws.{plans_kept}
use Rattle.acct_model.proofs.laws.plans_are_kept.Goals as goal

pub returns : goal.returns
returns c = plans_kept
