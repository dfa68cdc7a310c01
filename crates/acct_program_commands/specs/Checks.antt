-- What a text is as a configuration, and what `check` prints of it.
use Rattle.std.specs.Prelude.{◌≡◌, ◌⊎◌, ℕ, List, [], ◌∷◌, ◌++◌, Option, codes, decimal, length}
use Rattle.std.specs.Prelude.{Result, Ok, Err, OnOk, IfErr}
use Rattle.std.specs.Str.{IsUtf8}
use Rattle.std.specs.Io.KnownBytes.{Appends}
use Rattle.acct_site.specs.declared.config.Config.{Config}
use Rattle.acct_site_config.specs.Config.{IsConfig, IsConfigError}
use Rattle.acct_site_config.specs.Tables.{top_error}
use Rattle.acct_site_config.specs.declared.config_error.ConfigError.{ConfigError}
use Rattle.acct_site_config.specs.declared.config_error.ConfigKind.TheVariants.{NotToml, Memory}
use Rattle.acct_program.specs.declared.input.InputFault.{InputFault}
use Rattle.acct_program.specs.declared.input.InputFault.TheVariants as input
use Rattle.acct_program.specs.declared.status.Status.{Status}
use Rattle.acct_program_commands.specs.Puts.{WasRead}
use Rattle.acct_program_commands.specs.Sights.{Reading}
use Rattle.acct_program_commands.specs.declared.fault.Fault.{Fault}
use Rattle.acct_program_commands.specs.declared.fault.Fault.TheVariants as fault

-- the first fault of octets that are no configuration; text that is not UTF-8 is no TOML
abbrev pub IsFaultOf : List ℕ → ConfigError → Type 0
IsFaultOf octets error =
    ((error ≡ top_error NotToml) × (¬ IsUtf8 octets)) ⊎ IsConfigError octets error

-- why there is no configuration if nothing could be read
abbrev pub unread : InputFault → Fault
unread input.TooLong = fault.CannotRead
unread input.CannotRead = fault.CannotRead
unread input.NoMemory = fault.Config (top_error Memory)

-- The configuration that the octets of a reading spell, or their first fault, or why there are no
-- octets.
abbrev pub IsRead : Reading → Result Config Fault → Type 0
IsRead (Ok octets) (Ok config) = IsConfig octets config
IsRead (Ok octets) (Err told) =
    (error : ConfigError) × (told ≡ fault.Config error) × IsFaultOf octets error
IsRead (Err why) (Ok config) = ⊥
IsRead (Err why) (Err told) = told ≡ unread why

-- What was read under a name: its configuration, or why there is none.
abbrev pub ReadsConfig : List ℕ → Result Config Fault → Type 0
ReadsConfig file result = (reading : Reading) × WasRead file reading × IsRead reading result

-- why the configuration under a name was not checked: there is none, or its sizes could not be
-- written
abbrev pub IsUnchecked : List ℕ → Fault → Type 0
IsUnchecked file told = ReadsConfig file (Err told) ⊎ (told ≡ fault.CannotWrite)

-- `ok: C clients, P plans, K keys`
abbrev pub sizes_line : Config → List ℕ
sizes_line config =
    codes "ok: " ++ decimal (length config.clients.list) ++ codes " clients, "
    ++ decimal (length config.plans) ++ codes " plans, "
    ++ decimal (length config.keys.list) ++ codes " keys" ++ 10 ∷ []

-- `check` of the configuration under a name: its sizes were printed and nothing else, or why not
pub record ChecksConfig (file : List ℕ) (before after : Option (List ℕ))
    (ended : Result Status Fault) : Type 0 where
  pub sizes : OnOk ended ((config : Config) × ReadsConfig file (Ok config)
      × Appends before after (sizes_line config))
  pub refused : IfErr ended (IsUnchecked file)
