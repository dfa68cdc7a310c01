use Rattle.std.proofs.Common.{◌≡◌}
use Rattle.acct_wire.specs.ClientFaults.{client_fault, clients_fault}
use Rattle.acct_model.proofs.Faults.{faults_from}
use Rattle.acct_wire.proofs.client.Clients.new.Given as goal

abbrev pub invariant-loop-i : goal.invariant-loop-i
invariant-loop-i l = faults_from client_fault l.i l.list.items ≡ clients_fault l.list.items
