-- The tables of withdrawn accounts.
use Rattle.std.specs.Prelude.{◌≡◌, ℕ, ℤ, pos, true, List, [], ◌∷◌, Option, None, codes}
use Rattle.std.specs.Prelude.{option_and_then}
use Rattle.percent_encoding.specs.Percent.{percent_decode}
use Rattle.toml.specs.Data.{Data, Members}
use Rattle.acct_model.specs.Vouchers.{is_voucher_account}
use Rattle.acct_desk.specs.declared.signed_key.Withdrawn.{Withdrawn}
use Rattle.acct_site_config.specs.declared.config_error.ConfigKind.{ConfigKind}
use Rattle.acct_site_config.specs.declared.config_error.ConfigKind.TheVariants.{BadWithdrawn}
use Rattle.acct_site_config.specs.declared.config_error.ConfigTable.TheVariants as place
use Rattle.acct_site_config.specs.declared.config_error.ConfigError.{ConfigError}
use Rattle.acct_site_config.specs.Tables.{table_shown, text_at, integer_at, two}
use Rattle.acct_site_config.specs.Entries as entries

-- the names of such a table
abbrev pub withdrawn_names : List (List ℕ)
withdrawn_names = codes "account" ∷ codes "until" ∷ []

-- the account, as shown, and the last second that is withdrawn
abbrev pub WithdrawnValues : Type 0
WithdrawnValues = List ℕ × ℤ

abbrev pub withdrawn_values_in : Members → Option WithdrawnValues
withdrawn_values_in members =
    two (text_at (codes "account") members) (integer_at (codes "until") members)

abbrev pub withdrawn_values : Data → Option WithdrawnValues
withdrawn_values value = option_and_then withdrawn_values_in (table_shown withdrawn_names value)

-- the values are those of this withdrawal, of a percent-decoded account of 1 to 253 octets
pub record SaysWithdrawn (values : WithdrawnValues) (withdrawn : Withdrawn) : Type 0 where
  pub account_is : withdrawn.account ≡ percent_decode values.0
  pub account_fits : is_voucher_account withdrawn.account ≡ true
  pub until_is : values.1 ≡ pos withdrawn.until

-- An account may be withdrawn more than once, so nothing is wrong with one after others.
abbrev pub withdrawn_fault : List Withdrawn → Withdrawn → Option ConfigKind
withdrawn_fault earlier withdrawn = None

-- the tables spell these withdrawals
abbrev pub AreWithdrawnTables : List Data → List Withdrawn → Type 0
AreWithdrawnTables = entries.AreEntries withdrawn_values SaysWithdrawn withdrawn_fault

-- why a table after these is refused
abbrev pub IsWithdrawnRefused : List Withdrawn → Data → ConfigKind → Type 0
IsWithdrawnRefused =
    entries.IsFirstRefused withdrawn_values SaysWithdrawn withdrawn_fault BadWithdrawn
    (λ kind. kind)

-- the error is that of the first such table that is refused
abbrev pub FirstWithdrawnRefused : List Data → ConfigError → Type 0
FirstWithdrawnRefused =
    entries.FirstRefused AreWithdrawnTables IsWithdrawnRefused place.Withdrawn
