use Rattle.acct_wire.proofs.ClientLaws.{clients_differ}
use Rattle.acct_wire.proofs.laws.clients_differ.Goals as goal

pub returns : goal.returns
returns c = clients_differ
