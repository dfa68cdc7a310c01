use Rattle.acct_wire.proofs.Judgement.{once, asking}
use Rattle.acct_wire.proofs.Asked.{one_entry}
use Rattle.acct_wire.proofs.laws.one_judgement.Goals as goal

pub returns : goal.returns
returns c = record { once = once; asking = asking; entry = one_entry }
