-- The tables of clients.
use Rattle.std.specs.Prelude.{◌≡◌, ℕ, Bool, true, not, ◌&&◌, ◌||◌, ◌==◌, nat_le, List, [], ◌∷◌}
use Rattle.std.specs.Prelude.{length, bytes_eq, Option, option_and_then, codes}
use Rattle.std.specs.List.{list_all}
use Rattle.std.specs.Net.Grammar.{IsDotted}
use Rattle.toml.specs.Data.{Data, Members}
use Rattle.acct_wire.specs.declared.client.Client.{Client}
use Rattle.acct_wire.specs.declared.client.ClientError.{ClientError}
use Rattle.acct_wire.specs.declared.client.ClientError.TheVariants.{TwiceNamed, TwiceAddressed}
use Rattle.acct_wire.specs.declared.client.ClientError.TheVariants as fault
use Rattle.acct_wire.specs.Clients.{ClientsFacts}
use Rattle.acct_wire.specs.ClientFaults.{client_fault}
use Rattle.acct_site_config.specs.declared.config_error.ConfigKind.{ConfigKind}
use Rattle.acct_site_config.specs.declared.config_error.ConfigKind.TheVariants.{BadClient}
use Rattle.acct_site_config.specs.declared.config_error.ConfigKind.TheVariants.{TwiceClient, Memory}
use Rattle.acct_site_config.specs.declared.config_error.ConfigTable.TheVariants as place
use Rattle.acct_site_config.specs.declared.config_error.ConfigError.{ConfigError}
use Rattle.acct_site_config.specs.Tables.{table_shown, text_at, text_or, bool_at, two, three}
use Rattle.acct_site_config.specs.PlanTables.{is_class}
use Rattle.acct_site_config.specs.Entries as entries

-- the names of a client's table
abbrev pub client_names : List (List ℕ)
client_names =
    codes "name" ∷ codes "address" ∷ codes "secret" ∷ codes "stamped" ∷ codes "proxy"
    ∷ codes "plan" ∷ []

-- the name, the address and the secret of a client's table
abbrev pub ClientTexts : Type 0
ClientTexts = List ℕ × List ℕ × List ℕ

abbrev pub texts_in : Members → Option ClientTexts
texts_in members =
    three (text_at (codes "name") members) (text_at (codes "address") members)
    (text_at (codes "secret") members)

-- Whether the client's logins are stamped, whether it is a proxy, and the class of its reports
-- without a stamp.
abbrev pub ClientMarks : Type 0
ClientMarks = Bool × Bool × List ℕ

abbrev pub marks_in : Members → Option ClientMarks
marks_in members =
    three (bool_at (codes "stamped") members) (bool_at (codes "proxy") members)
    (text_or (codes "default") (codes "plan") members)

-- the texts and the marks of a client's table
abbrev pub ClientValues : Type 0
ClientValues = ClientTexts × ClientMarks

abbrev pub values_in : Members → Option ClientValues
values_in members = two (texts_in members) (marks_in members)

abbrev pub client_values : Data → Option ClientValues
client_values value = option_and_then values_in (table_shown client_names value)

-- A to Z, a to z, 0 to 9, `.`, `-` or `_`
abbrev pub is_name_octet : ℕ → Bool
is_name_octet octet =
    (nat_le 48 octet && nat_le octet 57) || (nat_le 65 octet && nat_le octet 90) ||
    (nat_le 97 octet && nat_le octet 122) || octet == 46 || octet == 45 || octet == 95

-- 1 to 32 of these characters
abbrev pub is_name_text : List ℕ → Bool
is_name_text name = nat_le 1 (length name) && nat_le (length name) 32 && list_all is_name_octet name

-- 1 to 128 octets
abbrev pub is_secret : List ℕ → Bool
is_secret secret = nat_le 1 (length secret) && nat_le (length secret) 128

-- A class has 1 to 253 octets. Only a client whose logins are stamped may be a proxy, or have
-- another class than `default`.
abbrev pub are_marks : ClientMarks → Bool
are_marks marks =
    is_class marks.2 && (marks.0 || (not marks.1 && bytes_eq marks.2 (codes "default")))

-- the values are those of this client, each within its rule
pub record SaysClient (values : ClientValues) (client : Client) : Type 0 where
  pub name_is : values.0.0 ≡ client.name
  pub address_is : IsDotted values.0.1 client.address
  pub secret_is : values.0.2 ≡ client.secret
  pub marks_fit : are_marks values.1 ≡ true
  pub name_fits : is_name_text client.name ≡ true
  pub secret_fits : is_secret client.secret ≡ true

-- the tables spell these clients, of which no two share a name or an address
abbrev pub AreClientTables : List Data → ClientsFacts → Type 0
AreClientTables tables clients =
    entries.AreEntries client_values SaysClient client_fault tables clients.list

-- the kind of a client's fault
abbrev pub client_kind : ClientError → ConfigKind
client_kind TwiceNamed = TwiceClient
client_kind TwiceAddressed = TwiceClient
client_kind fault.Memory = Memory

-- why a table after these clients is refused
abbrev pub IsClientRefused : ClientsFacts → Data → ConfigKind → Type 0
IsClientRefused earlier =
    entries.IsFirstRefused client_values SaysClient client_fault BadClient client_kind earlier.list

-- the error is that of the first client's table that is refused
abbrev pub FirstClientRefused : List Data → ConfigError → Type 0
FirstClientRefused = entries.FirstRefused AreClientTables IsClientRefused place.Client
