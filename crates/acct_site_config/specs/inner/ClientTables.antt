-- One table of a client.
use Rattle.toml.specs.Data.{Data}
use Rattle.acct_wire.specs.declared.client.Client.{Client}
use Rattle.acct_wire.specs.ClientFaults.{client_fault}
use Rattle.acct_site_config.specs.declared.config_error.ConfigKind.{ConfigKind}
use Rattle.acct_site_config.specs.declared.config_error.ConfigKind.TheVariants.{BadClient}
use Rattle.acct_site_config.specs.Entries as entries
use Rattle.acct_site_config.specs.ClientTables.{client_values, SaysClient}

abbrev pub SpellsClient : Data → Client → Type 0
SpellsClient = entries.SpellsTable client_values SaysClient client_fault

-- why a table is no client, or out of memory
abbrev pub IsNoClient : Data → ConfigKind → Type 0
IsNoClient = entries.IsUnspelled client_values SaysClient client_fault BadClient
