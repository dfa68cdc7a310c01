use Rattle.std.proofs.Common.{◌≡◌, drop}
use Rattle.std.specs.List.{find}
use Rattle.acct_wire.specs.Hearing.{is_called}
use Rattle.acct_wire.proofs.hearing.Stamping.called.Given as goal

abbrev pub invariant-loop-client : goal.invariant-loop-client
invariant-loop-client l =
    find (is_called l.name) (drop l.client-index l.client-items)
    ≡ find (is_called l.name) l.self.clients.items
