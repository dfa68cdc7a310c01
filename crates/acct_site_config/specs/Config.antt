-- The configuration that a text spells, or the first fault of the text.
use Rattle.std.specs.Prelude.{◌≡◌, ◌⊎◌, ℕ, true, List, [], ◌∷◌, Option, None, Some, codes}
use Rattle.std.specs.Prelude.{option_and_then}
use Rattle.toml.specs.Data.{Data, Members}
use Rattle.toml.specs.Parse.{parse_document}
use Rattle.acct_model.specs.declared.plan.Plan.{Plan}
use Rattle.acct_desk.specs.declared.signed_key.Withdrawn.{Withdrawn}
use Rattle.acct_desk.specs.Keys.{KeysFacts}
use Rattle.acct_wire.specs.declared.hearing.Stamping.{Stamping}
use Rattle.acct_wire.specs.Clients.{ClientsFacts}
use Rattle.acct_site.specs.declared.config.Config.{Config}
use Rattle.acct_site_config.specs.declared.config_error.ConfigKind.TheVariants.{NotToml, BadShape}
use Rattle.acct_site_config.specs.declared.config_error.ConfigKind.TheVariants.{Memory}
use Rattle.acct_site_config.specs.declared.config_error.ConfigError.{ConfigError}
use Rattle.acct_site_config.specs.Tables.{only, array_at, five, top_error}
use Rattle.acct_site_config.specs.ClientTables.{AreClientTables, FirstClientRefused}
use Rattle.acct_site_config.specs.PlanTables.{ArePlanTables, has_default, FirstPlanRefused}
use Rattle.acct_site_config.specs.PlanTables.{LacksDefault}
use Rattle.acct_site_config.specs.KeyTables.{AreKeyTables, FirstKeyRefused}
use Rattle.acct_site_config.specs.StampTables.{StampTexts, stamp_at, IsStamping, IsSigning}
use Rattle.acct_site_config.specs.StampTables.{IsStampFault}
use Rattle.acct_site_config.specs.WithdrawnTables.{AreWithdrawnTables, FirstWithdrawnRefused}

-- the names of the top level
abbrev pub top_names : List (List ℕ)
top_names =
    codes "client" ∷ codes "plan" ∷ codes "key" ∷ codes "stamp" ∷ codes "withdrawn" ∷ []

-- the elements of the arrays of the clients, of the plans and of the keys, the texts of the stamp,
-- if there is one, and the elements of the array of withdrawn accounts
abbrev pub Arrays : Type 0
Arrays = List Data × List Data × List Data × Option StampTexts × List Data

-- the arrays of a document
abbrev pub arrays_at : Members → Option Arrays
arrays_at top =
    five (array_at (codes "client") 1024 top) (array_at (codes "plan") 256 top)
    (array_at (codes "key") 4096 top) (stamp_at top) (array_at (codes "withdrawn") 1024 top)

-- the arrays of a document that has no names but these five
abbrev pub arrays_in : Members → Option Arrays
arrays_in top = option_and_then arrays_at (only top_names top)

-- the text is a document that spells this configuration
pub record IsConfig (text : List ℕ) (config : Config) : Type 0 where
  pub top : Members
  pub parsed : parse_document text ≡ Some top
  pub arrays : Arrays
  pub shaped : arrays_in top ≡ Some arrays
  pub clients : AreClientTables arrays.0 config.clients
  pub plans : ArePlanTables arrays.1 config.plans
  pub default : has_default config.plans ≡ true
  pub keys : AreKeyTables arrays.2 config.keys
  pub stamping : IsStamping arrays.3 arrays.0 config.clients.stamping
  pub withdrawn : List Withdrawn
  pub ended : AreWithdrawnTables arrays.4 withdrawn
  pub signing : IsSigning arrays.3 withdrawn config.keys.signing

-- the error is that of the stamp, or the first fault of the withdrawn accounts if it has none
abbrev pub IsSignedFault : Arrays → ConfigError → Type 0
IsSignedFault arrays error =
    IsStampFault arrays.3 arrays.0 error
    ⊎ ((stamping : Option Stamping) × IsStamping arrays.3 arrays.0 stamping
    × FirstWithdrawnRefused arrays.4 error)

-- the error is the first fault of the keys, or of what follows if the keys have none
abbrev pub IsLastFault : Arrays → ConfigError → Type 0
IsLastFault arrays error =
    FirstKeyRefused arrays.2 error
    ⊎ ((keys : KeysFacts) × AreKeyTables arrays.2 keys × IsSignedFault arrays error)

-- the error is the first fault of the plans, or of what follows if the plans have none
abbrev pub IsLaterFault : Arrays → ConfigError → Type 0
IsLaterFault arrays error =
    FirstPlanRefused arrays.1 error
    ⊎ LacksDefault arrays.1 error
    ⊎ ((plans : List Plan) × ArePlanTables arrays.1 plans × (has_default plans ≡ true)
    × IsLastFault arrays error)

-- the error is the first fault of a document's tables
abbrev pub IsTableFault : Arrays → ConfigError → Type 0
IsTableFault arrays error =
    FirstClientRefused arrays.0 error
    ⊎ ((clients : ClientsFacts) × AreClientTables arrays.0 clients × IsLaterFault arrays error)

-- the error is the first fault of a document
abbrev pub IsDocumentFault : Members → ConfigError → Type 0
IsDocumentFault top error =
    ((error ≡ top_error BadShape) × (arrays_in top ≡ None))
    ⊎ ((arrays : Arrays) × (arrays_in top ≡ Some arrays) × IsTableFault arrays error)

-- the error is the first fault of the text, or out of memory
abbrev pub IsConfigError : List ℕ → ConfigError → Type 0
IsConfigError text error =
    (error.kind ≡ Memory)
    ⊎ ((error ≡ top_error NotToml) × (parse_document text ≡ None))
    ⊎ ((top : Members) × (parse_document text ≡ Some top) × IsDocumentFault top error)
