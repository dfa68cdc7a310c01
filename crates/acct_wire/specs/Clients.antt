-- The clients of a site.
use Rattle.std.specs.Prelude.{ℕ, Bool, Option, List, bytes_eq}
use Rattle.std.specs.List.{find}
use Rattle.acct_wire.specs.declared.client.Client.{Client}
use Rattle.acct_wire.specs.declared.hearing.Stamping.{Stamping}

-- the clients of a site, and how it hears those of them whose logins are stamped
pub record ClientsFacts : Type 0 where
  pub list : List Client
  pub stamping : Option Stamping

abbrev pub has_name : List ℕ → Client → Bool
has_name name client = bytes_eq client.name name

abbrev pub has_address : List ℕ → Client → Bool
has_address address client = bytes_eq client.address address

-- the client that sends from an address
abbrev pub client_at : List ℕ → List Client → Option Client
client_at address clients = find (has_address address) clients

-- the client of a name
abbrev pub client_named : List ℕ → List Client → Option Client
client_named name clients = find (has_name name) clients
