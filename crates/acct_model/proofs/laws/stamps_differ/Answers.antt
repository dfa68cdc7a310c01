use Rattle.acct_model.proofs.StampLaws.{stamps_differ}
use Rattle.acct_model.proofs.laws.stamps_differ.Goals as goal

pub returns : goal.returns
returns c = stamps_differ
