use Rattle.std.proofs.Common.{refl, sym, inr}
use Rattle.toml.specs.View.{view}
use Rattle.acct_site_config.specs.ClientTables.{ClientValues}
use Rattle.acct_site_config.proofs.ClientLemmas.{bad_address}
use Rattle.acct_site_config.proofs.client_tables.client_of.Goals as goal

pub returns-in_default-address_of-clause-refused :
    goal.returns-in_default-address_of-clause-refused
returns-in_default-address_of-clause-refused c =
    let m = c.in-Some.marks in
    let values : ClientValues = (
      (c.in-Some.name.now, c.in-Some.address.now, c.in-Some.secret.now),
      (m.0, m.1, m.2.now),
    ) in
    let shape = sym (rw c.in-Some.is at c.values_of.ensures) in
    let none = rw c.in_default-address_of.is at c.address_of.ensures in
    inr (inr (refl, bad_address (view c.args.table.now) values shape none))
