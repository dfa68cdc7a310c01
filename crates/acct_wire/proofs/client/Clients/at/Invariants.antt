use Rattle.std.proofs.Common.{◌≡◌, drop}
use Rattle.acct_wire.specs.Clients.{client_at}
use Rattle.acct_wire.proofs.client.Clients.at.Given as goal

abbrev pub invariant-loop-client : goal.invariant-loop-client
invariant-loop-client l =
    client_at l.address (drop l.client-index l.client-items) ≡ client_at l.address l.self.list
