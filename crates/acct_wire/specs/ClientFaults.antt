-- What is wrong with clients.
use Rattle.std.specs.Prelude.{◌≡◌, Option, None, Some, List, if◌then◌else◌}
use Rattle.std.specs.List.{list_any}
use Rattle.acct_model.specs.Faults.{first_fault}
use Rattle.acct_wire.specs.declared.client.Client.{Client}
use Rattle.acct_wire.specs.declared.client.ClientError.{ClientError}
use Rattle.acct_wire.specs.declared.client.ClientError.TheVariants.{TwiceNamed, TwiceAddressed}
use Rattle.acct_wire.specs.Clients.{has_name, has_address}

-- what is wrong with a client that follows earlier ones
abbrev pub client_fault : List Client → Client → Option ClientError
client_fault earlier client =
    if list_any (has_name client.name) earlier then Some TwiceNamed
    else if list_any (has_address client.address) earlier then Some TwiceAddressed
    else None

-- the first fault of a list of clients
abbrev pub clients_fault : List Client → Option ClientError
clients_fault clients = first_fault client_fault clients

-- what the clients of a site keep
pub record AreClients (clients : List Client) : Type 0 where
  pub faultless : clients_fault clients ≡ None
