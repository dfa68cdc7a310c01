use Rattle.acct_model.proofs.StampLaws.{stamps_read}
use Rattle.acct_model.proofs.laws.stamps_are_read.Goals as goal

pub returns : goal.returns
returns c = stamps_read
