use Rattle.acct_desk.proofs.SignedKeyLaws.{signed_keys_differ}
use Rattle.acct_desk.proofs.laws.signed_keys_differ.Goals as goal

pub returns : goal.returns
returns c = signed_keys_differ
