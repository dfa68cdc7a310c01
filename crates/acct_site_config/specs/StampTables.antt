-- The table of the stamp, and the clients whose logins are stamped.
use Rattle.std.specs.Prelude.{◌≡◌, ℕ, Bool, true, false, ◌&&◌, List, [], ◌∷◌, codes, Option, None}
use Rattle.std.specs.Prelude.{Some, is_some, option_and_then, option_map, if◌then◌else◌}
use Rattle.std.specs.List.{filter_map, position_from}
use Rattle.toml.specs.Data.{Data, Members, get_member}
use Rattle.acct_model.specs.declared.stamp.StampSecrets.{StampSecrets}
use Rattle.acct_model.specs.Secrets.{is_secret}
use Rattle.acct_wire.specs.declared.hearing.StampedClient.{StampedClient}
use Rattle.acct_wire.specs.declared.hearing.Stamping.{Stamping}
use Rattle.acct_desk.specs.declared.keys.Signing.{Signing}
use Rattle.acct_desk.specs.declared.signed_key.Withdrawn.{Withdrawn}
use Rattle.acct_site_config.specs.declared.config_error.ConfigKind.TheVariants.{BadStamp, NoStamp}
use Rattle.acct_site_config.specs.declared.config_error.ConfigTable.TheVariants as place
use Rattle.acct_site_config.specs.declared.config_error.ConfigError.{ConfigError}
use Rattle.acct_site_config.specs.Tables.{table_shown, text_at, text_if, two, top_error}
use Rattle.acct_site_config.specs.ClientTables.{ClientValues, client_values}

-- the names of the stamp's table
abbrev pub stamp_names : List (List ℕ)
stamp_names = codes "secret" ∷ codes "old" ∷ []

-- the secret, and the old one, if there is one
abbrev pub StampTexts : Type 0
StampTexts = List ℕ × Option (List ℕ)

abbrev pub stamp_texts_in : Members → Option StampTexts
stamp_texts_in members =
    two (text_at (codes "secret") members) (text_if (get_member (codes "old") members))

abbrev pub stamp_texts : Data → Option StampTexts
stamp_texts value = option_and_then stamp_texts_in (table_shown stamp_names value)

-- the texts of the stamp's table, if there is one
abbrev pub stamp_shown : Option Data → Option (Option StampTexts)
stamp_shown None = Some None
stamp_shown (Some value) = option_map Some (stamp_texts value)

abbrev pub stamp_at : Members → Option (Option StampTexts)
stamp_at top = stamp_shown (get_member (codes "stamp") top)

-- ---- secrets

abbrev pub is_old_secret : Option (List ℕ) → Bool
is_old_secret None = true
is_old_secret (Some old) = is_secret old

-- each is 16 to 64 octets
abbrev pub are_secrets : StampTexts → Bool
are_secrets texts = is_secret texts.0 && is_old_secret texts.1

-- the texts are these secrets
pub record SaysSecrets (texts : StampTexts) (secrets : StampSecrets) : Type 0 where
  pub secret_is : texts.0 ≡ secrets.secret
  pub old_is : texts.1 ≡ secrets.old
  pub fit : are_secrets texts ≡ true

-- ---- clients

-- a client's values, if its logins are stamped
abbrev pub stamped_with : ClientValues → Option StampedClient
stamped_with values =
    if values.1.0
    then Some (record { name = values.0.0; proxy = values.1.1; plan = values.1.2 })
    else None

-- the client of a table, if its logins are stamped
abbrev pub stamped_in : Data → Option StampedClient
stamped_in value = option_and_then stamped_with (client_values value)

abbrev pub is_stamped : Data → Bool
is_stamped value = is_some (stamped_in value)

-- the place of the first of them
abbrev pub first_stamped : List Data → Option ℕ
first_stamped tables = position_from is_stamped 0 tables

-- ---- how the site hears them

-- Without the stamp's table the logins of no client are stamped.
abbrev pub IsStamping : Option StampTexts → List Data → Option Stamping → Type 0
IsStamping None tables stamping = (stamping ≡ None) × (first_stamped tables ≡ None)
IsStamping (Some texts) tables None = ⊥
IsStamping (Some texts) tables (Some stamping) =
    SaysSecrets texts stamping.secrets × (stamping.clients.items ≡ filter_map stamped_in tables)

-- What the desk signs with, and which keys are withdrawn: nothing without the stamp's table.
abbrev pub IsSigning : Option StampTexts → List Withdrawn → Option Signing → Type 0
IsSigning None withdrawn signing = signing ≡ None
IsSigning (Some texts) withdrawn None = ⊥
IsSigning (Some texts) withdrawn (Some signing) =
    SaysSecrets texts signing.secrets × (signing.withdrawn.items ≡ withdrawn)

-- The secrets are out of their rule; or without them a client is stamped, and this is the first.
abbrev pub IsStampFault : Option StampTexts → List Data → ConfigError → Type 0
IsStampFault None tables error =
    (error.kind ≡ NoStamp) × (error.table ≡ place.Client)
    × (first_stamped tables ≡ Some error.index)
IsStampFault (Some texts) tables error =
    (error ≡ top_error BadStamp) × (are_secrets texts ≡ false)
