use Rattle.acct_wire.proofs.Tellers.{tellers_differ}
use Rattle.acct_wire.proofs.laws.tellers_differ.Goals as goal

pub returns : goal.returns
returns c = tellers_differ
