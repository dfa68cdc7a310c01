-- One table of a key.
use Rattle.std.specs.Prelude.{Option, option_map}
use Rattle.std.specs.Borrow.{Bor}
use Rattle.toml.specs.View.{view}
use Rattle.toml.specs.declared.value.Value.{Value}
use Rattle.toml.specs.Data.{Data}
use Rattle.acct_desk.specs.declared.keys.DeskKey.{DeskKey}
use Rattle.acct_desk.specs.KeyFaults.{key_fault}
use Rattle.acct_site_config.specs.declared.key_tables.Bearer as code
use Rattle.acct_site_config.specs.declared.key_tables.Bearer.TheVariants as codes_of
use Rattle.acct_site_config.specs.declared.config_error.ConfigKind.{ConfigKind}
use Rattle.acct_site_config.specs.declared.config_error.ConfigKind.TheVariants.{BadKey}
use Rattle.acct_site_config.specs.Entries as entries
use Rattle.acct_site_config.specs.KeyTables.{Bearer, account, cashier, clerk, logins, key_values, SaysKey}

abbrev pub bearer_view : code.Bearer → Bearer
bearer_view (codes_of.Account text) = account text.now
bearer_view (codes_of.Cashier is) = cashier is
bearer_view (codes_of.Clerk is sees) = clerk is sees
bearer_view (codes_of.Logins is) = logins is

abbrev pub SpellsKey : Data → DeskKey → Type 0
SpellsKey = entries.SpellsTable key_values SaysKey key_fault

-- why a table is no key, or out of memory
abbrev pub IsNoKey : Data → ConfigKind → Type 0
IsNoKey = entries.IsUnspelled key_values SaysKey key_fault BadKey

-- a value of a table, if it is there
abbrev pub data_view : Option (Bor Value) → Option Data
data_view value = option_map (λ v. view v.now) value
