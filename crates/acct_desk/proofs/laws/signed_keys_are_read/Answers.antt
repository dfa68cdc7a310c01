use Rattle.acct_desk.proofs.SignedKeyLaws.{signed_keys_read}
use Rattle.acct_desk.proofs.laws.signed_keys_are_read.Goals as goal

pub returns : goal.returns
returns c = signed_keys_read
