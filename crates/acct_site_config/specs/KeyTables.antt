-- The tables of keys.
use Rattle.std.specs.Prelude.{◌≡◌, ℕ, Bool, true, List, [], ◌∷◌, Option, None, Some}
use Rattle.std.specs.Prelude.{option_map, option_and_then, codes}
use Rattle.percent_encoding.specs.Percent.{percent_decode}
use Rattle.toml.specs.Data.{Data, Members, get_member, as_str, as_bool}
use Rattle.acct_model.specs.Vouchers.{is_voucher_account}
use Rattle.acct_desk.specs.declared.keys.Role.{Role}
use Rattle.acct_desk.specs.declared.keys.Role.TheVariants.{Account, Cashier, Clerk, Logins}
use Rattle.acct_desk.specs.declared.keys.DeskKey.{DeskKey}
use Rattle.acct_desk.specs.declared.keys.KeysError.{KeysError}
use Rattle.acct_desk.specs.declared.keys.KeysError.TheVariants.{BadToken}
use Rattle.acct_desk.specs.declared.keys.KeysError.TheVariants as fault
use Rattle.acct_desk.specs.Keys.{KeysFacts}
use Rattle.acct_desk.specs.KeyFaults.{key_fault}
use Rattle.acct_site_config.specs.declared.config_error.ConfigKind.{ConfigKind}
use Rattle.acct_site_config.specs.declared.config_error.ConfigKind.TheVariants.{BadKey}
use Rattle.acct_site_config.specs.declared.config_error.ConfigKind.TheVariants.{TwiceKeyed, Memory}
use Rattle.acct_site_config.specs.declared.config_error.ConfigTable.TheVariants as place
use Rattle.acct_site_config.specs.declared.config_error.ConfigError.{ConfigError}
use Rattle.acct_site_config.specs.Tables.{table_shown, text_at, two}
use Rattle.acct_site_config.specs.Entries as entries

-- whom a key's table names: an account, as shown, or whether it is the cashier, or one who sees
-- accounts, or for logins
pub data Bearer : Type 0 where
  account : List ℕ → Bearer
  cashier : Bool → Bearer
  clerk : Bool → Bool → Bearer
  logins : Bool → Bearer

-- the bearer that values name, at `account`, at `cashier`, beside it at `accounts`, at `logins`
abbrev pub account_bearer : Data → Option Bearer
account_bearer value = option_map account (as_str value)

abbrev pub cashier_bearer : Data → Option Bearer
cashier_bearer value = option_map cashier (as_bool value)

abbrev pub clerk_of : Option Bool → Option Bool → Option Bearer
clerk_of (Some is) (Some sees) = Some (clerk is sees)
clerk_of _ _ = None

abbrev pub clerk_bearer : Data → Data → Option Bearer
clerk_bearer value beside = clerk_of (as_bool value) (as_bool beside)

abbrev pub logins_bearer : Data → Option Bearer
logins_bearer value = option_map logins (as_bool value)

-- the bearer of the values at `account`, `cashier`, `accounts` and `logins`: exactly one of them, or
-- `accounts` beside `cashier`
abbrev pub bearer_of : Option Data → Option Data → Option Data → Option Data → Option Bearer
bearer_of (Some value) None None None = account_bearer value
bearer_of None (Some value) None None = cashier_bearer value
bearer_of None (Some value) (Some beside) None = clerk_bearer value beside
bearer_of None None None (Some value) = logins_bearer value
bearer_of _ _ _ _ = None

abbrev pub bearer_in : Members → Option Bearer
bearer_in members =
    bearer_of (get_member (codes "account") members) (get_member (codes "cashier") members)
    (get_member (codes "accounts") members) (get_member (codes "logins") members)

-- the names of a key's table
abbrev pub key_names : List (List ℕ)
key_names = codes "token" ∷ codes "account" ∷ codes "cashier" ∷ codes "accounts" ∷ codes "logins" ∷ []

-- the token and the bearer of a key's table
abbrev pub KeyValues : Type 0
KeyValues = List ℕ × Bearer

abbrev pub key_values_in : Members → Option KeyValues
key_values_in members = two (text_at (codes "token") members) (bearer_in members)

abbrev pub key_values : Data → Option KeyValues
key_values value = option_and_then key_values_in (table_shown key_names value)

-- the bearer's role: a percent-decoded account of 1 to 253 octets, the cashier, one who sees
-- accounts, or for logins
abbrev pub SaysRole : Bearer → Role → Type 0
SaysRole (account text) (Account octets) =
    (octets ≡ percent_decode text) × (is_voucher_account octets ≡ true)
SaysRole (cashier is) Cashier = is ≡ true
SaysRole (clerk is sees) Clerk = (is ≡ true) × (sees ≡ true)
SaysRole (logins is) Logins = is ≡ true
SaysRole bearer role = ⊥

-- the values are those of this key
pub record SaysKey (values : KeyValues) (key : DeskKey) : Type 0 where
  pub token_is : values.0 ≡ key.token
  pub role_is : SaysRole values.1 key.role

-- the tables spell these keys, each with a token within its rule, of which no two share one
abbrev pub AreKeyTables : List Data → KeysFacts → Type 0
AreKeyTables tables keys = entries.AreEntries key_values SaysKey key_fault tables keys.list

-- the kind of a key's fault
abbrev pub key_kind : KeysError → ConfigKind
key_kind BadToken = BadKey
key_kind fault.TwiceKeyed = TwiceKeyed
key_kind fault.Memory = Memory

-- why a table after these keys is refused
abbrev pub IsKeyRefused : KeysFacts → Data → ConfigKind → Type 0
IsKeyRefused earlier =
    entries.IsFirstRefused key_values SaysKey key_fault BadKey key_kind earlier.list

-- the error is that of the first key's table that is refused
abbrev pub FirstKeyRefused : List Data → ConfigError → Type 0
FirstKeyRefused = entries.FirstRefused AreKeyTables IsKeyRefused place.Key
