use Rattle.std.proofs.Common.{refl, ap}
use Rattle.toml.specs.View.{view}
use Rattle.acct_wire.specs.declared.client.ClientError.TheVariants.{Memory}
use Rattle.acct_wire.specs.Clients.{ClientsFacts}
use Rattle.acct_wire.specs.ClientFaults.{client_fault}
use Rattle.acct_site_config.specs.declared.config_error.ConfigKind.TheVariants.{BadClient}
use Rattle.acct_site_config.specs.ClientTables.{client_values, SaysClient, client_kind}
use Rattle.acct_site_config.proofs.EntryLemmas.{more_entries, unspelled, faulty}
use Rattle.acct_site_config.proofs.client_tables.ClientsEntries.push_table.Goals as goal

pub returns-in_err-client-clause-refused : goal.returns-in_err-client-clause-refused
returns-in_err-client-clause-refused c =
    unspelled client_values SaysClient client_fault BadClient client_kind c.args.self.now.list
    (view c.args.table.now) c.in_err-client.field-0.0 c.from_residual.result
    c.from_residual.ensures.1 c.in_err-client.ensures.refused

pub returns-in_err-push-clause-refused : goal.returns-in_err-push-clause-refused
returns-in_err-push-clause-refused c =
    faulty client_values SaysClient client_fault BadClient client_kind Memory
    c.in_err-push.field-0.0 c.args.self.now.list (view c.args.table.now) c.in_ok-client.client
    c.from_residual-in_err-push.result c.from_residual-in_err-push.ensures.1
    c.in_ok-client.ensures.spelled c.in_err-push.ensures.refused refl

pub returns-clause-pushed : goal.returns-clause-pushed
returns-clause-pushed c tables are =
    rw (ap (λ (clients : ClientsFacts). clients.list) c.in_ok-push.ensures.pushed)
    (more_entries client_values SaysClient client_fault tables c.args.self.now.list
    (view c.args.table.now) c.in_ok-client.client are c.in_ok-client.ensures.spelled
    c.in_ok-push.ensures.faultless)
