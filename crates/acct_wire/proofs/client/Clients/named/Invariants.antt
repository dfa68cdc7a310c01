use Rattle.std.proofs.Common.{◌≡◌, drop}
use Rattle.acct_wire.specs.Clients.{client_named}
use Rattle.acct_wire.proofs.client.Clients.named.Given as goal

abbrev pub invariant-loop-client : goal.invariant-loop-client
invariant-loop-client l =
    client_named l.name (drop l.client-index l.client-items) ≡ client_named l.name l.self.list
