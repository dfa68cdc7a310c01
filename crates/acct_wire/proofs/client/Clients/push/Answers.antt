use Rattle.std.proofs.Common.{◌≡◌, None, rules, true}
use Rattle.std.specs.Result.{is_ok}
use Rattle.acct_model.proofs.Faults.{faultless_more}
use Rattle.acct_wire.specs.ClientFaults.{client_fault}
use Rattle.acct_wire.proofs.client.Clients.push.Goals as goal

pub invariant_of-self-2 : goal.invariant_of-self-2
invariant_of-self-2 c =
    let clients = c.self.inside.clients.items in
    let client = c.args.client in
    let pushed : is_ok c.push.result ≡ true = search rules in
    let alone : client_fault clients client ≡ None = search rules in
    rw (c.push.ensures.items, pushed)
    (record {
      faultless = faultless_more client_fault clients client c.self.invariant.faultless alone;
    })
