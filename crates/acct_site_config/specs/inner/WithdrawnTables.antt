-- One table of a withdrawn account.
use Rattle.std.specs.Prelude.{List, Vec}
use Rattle.std.specs.Global.{Global}
use Rattle.toml.specs.Data.{Data}
use Rattle.acct_desk.specs.declared.signed_key.Withdrawn.{Withdrawn}
use Rattle.acct_site_config.specs.declared.config_error.ConfigKind.{ConfigKind}
use Rattle.acct_site_config.specs.declared.config_error.ConfigKind.TheVariants.{BadWithdrawn}
use Rattle.acct_site_config.specs.Entries as entries
use Rattle.acct_site_config.specs.WithdrawnTables.{withdrawn_values, SaysWithdrawn, withdrawn_fault}
use Rattle.acct_site_config.specs.WithdrawnTables.{AreWithdrawnTables, IsWithdrawnRefused}

abbrev pub SpellsWithdrawn : Data → Withdrawn → Type 0
SpellsWithdrawn = entries.SpellsTable withdrawn_values SaysWithdrawn withdrawn_fault

-- why a table is no withdrawal, or out of memory
abbrev pub IsNoWithdrawn : Data → ConfigKind → Type 0
IsNoWithdrawn = entries.IsUnspelled withdrawn_values SaysWithdrawn withdrawn_fault BadWithdrawn

-- the same of a vector
abbrev pub AreSpelled : List Data → Vec Withdrawn Global → Type 0
AreSpelled tables list = AreWithdrawnTables tables list.items

abbrev pub Refuses : Vec Withdrawn Global → Data → ConfigKind → Type 0
Refuses list = IsWithdrawnRefused list.items
