-- The text of an error of a configuration: `KIND in TABLE INDEX`.
use Rattle.std.specs.Prelude.{ℕ, List, ◌++◌, codes, decimal}
use Rattle.acct_site_config.specs.declared.config_error.ConfigKind.{ConfigKind}
use Rattle.acct_site_config.specs.declared.config_error.ConfigKind.TheVariants as kind
use Rattle.acct_site_config.specs.declared.config_error.ConfigTable.{ConfigTable}
use Rattle.acct_site_config.specs.declared.config_error.ConfigTable.TheVariants as table
use Rattle.acct_site_config.specs.declared.config_error.ConfigError.{ConfigError}

abbrev pub kind_text : ConfigKind → List ℕ
kind_text kind.NotToml = codes "NotToml"
kind_text kind.BadShape = codes "BadShape"
kind_text kind.BadClient = codes "BadClient"
kind_text kind.TwiceClient = codes "TwiceClient"
kind_text kind.BadPlan = codes "BadPlan"
kind_text kind.TwicePlanned = codes "TwicePlanned"
kind_text kind.NoDefault = codes "NoDefault"
kind_text kind.BadKey = codes "BadKey"
kind_text kind.TwiceKeyed = codes "TwiceKeyed"
kind_text kind.Memory = codes "Memory"
kind_text kind.BadStamp = codes "BadStamp"
kind_text kind.NoStamp = codes "NoStamp"
kind_text kind.BadWithdrawn = codes "BadWithdrawn"

abbrev pub table_text : ConfigTable → List ℕ
table_text table.Top = codes "Top"
table_text table.Client = codes "Client"
table_text table.Plan = codes "Plan"
table_text table.Key = codes "Key"
table_text table.Withdrawn = codes "Withdrawn"

abbrev pub error_text : ConfigError → List ℕ
error_text error =
    kind_text error.kind ++ codes " in " ++ table_text error.table ++ codes " "
    ++ decimal error.index
