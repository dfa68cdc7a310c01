-- Tables of clients whose address is none.
use Rattle.std.proofs.Common.{◌≡◌, ℕ, List, Some}
use Rattle.std.specs.Net.Grammar.{IsDotted}
use Rattle.toml.specs.Data.{Data}
use Rattle.acct_wire.specs.ClientFaults.{client_fault}
use Rattle.acct_site_config.specs.Entries.{SpellsNone}
use Rattle.acct_site_config.specs.ClientTables.{client_values, ClientValues, SaysClient}

-- an address out of its rule is no client's
pub bad_address : (d : Data) (values : ClientValues) → client_values d ≡ Some values
    → ((octets : List ℕ) → IsDotted values.0.1 octets → ⊥)
    → SpellsNone client_values SaysClient client_fault d
bad_address d values shape bad = record {
  values = values;
  shape = shape;
  none = λ client says. bad client.address says.address_is;
}
