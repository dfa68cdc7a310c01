use Rattle.acct_desk.proofs.SignedKeyLaws.{signed_keys_in_force}
use Rattle.acct_desk.proofs.laws.signed_keys_are_in_force.Goals as goal

pub returns : goal.returns
returns c = signed_keys_in_force
