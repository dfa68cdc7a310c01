-- `key`: what it prints.
use Rattle.std.specs.Prelude.{◌≡◌, ◌⊎◌, ℕ, List, [], ◌∷◌, ◌++◌, Option, Some, None}
use Rattle.std.specs.Prelude.{Result, Ok, Err, OnOk, IfOk, IfErr}
use Rattle.std.specs.Io.KnownBytes.{Appends}
use Rattle.acct_desk.specs.SignedKeys.{made_key}
use Rattle.acct_desk.specs.declared.signed_key.SignedKey.{SignedKey}
use Rattle.acct_site.specs.declared.config.Config.{Config}
use Rattle.acct_site_config.specs.Tables.{top_error}
use Rattle.acct_site_config.specs.declared.config_error.ConfigKind.TheVariants.{NoStamp}
use Rattle.acct_program.specs.declared.status.Status.{Status}
use Rattle.acct_program.specs.declared.status.Status.TheVariants as status
use Rattle.acct_program_commands.specs.Checks.{ReadsConfig}
use Rattle.acct_program_commands.specs.declared.fault.Fault.{Fault}
use Rattle.acct_program_commands.specs.declared.fault.Fault.TheVariants as fault

-- a line of the key that the desk of a configuration makes
pub record IsKeyLine (config : Config) (key : SignedKey) (line : List ℕ) : Type 0 where
  pub value : List ℕ
  pub made : made_key config.keys.signing key ≡ Some value
  pub line_is : line ≡ value ++ 10 ∷ []

-- why a configuration makes no key: it has no secret to sign by
abbrev pub SignsNone : Config → Fault → Type 0
SignsNone config told =
    (config.keys.signing ≡ None) × (told ≡ fault.Config (top_error NoStamp))

-- why none was printed under the configuration of this name
abbrev pub IsUnsigned : List ℕ → Fault → Type 0
IsUnsigned file told = ReadsConfig file (Err told)
    ⊎ ((config : Config) × ReadsConfig file (Ok config) × SignsNone config told)
    ⊎ (told ≡ fault.NoMemory) ⊎ (told ≡ fault.CannotWrite)

-- A signed key was printed, made by the configuration of this name, and nothing else; or why not.
pub record PrintsKey (file account : List ℕ) (until : ℕ) (before after : Option (List ℕ))
    (ended : Result Status Fault) : Type 0 where
  pub printed : OnOk ended ((config : Config) × (line : List ℕ) × ReadsConfig file (Ok config)
      × IsKeyLine config (record { account = account; until = until }) line
      × Appends before after line)
  pub done : IfOk ended (λ ending. ending ≡ status.Done)
  pub unsigned : IfErr ended (IsUnsigned file)
