-- The keys of the desk.
use Rattle.std.specs.Prelude.{ℕ, nat_le, Bool, true, false, ◌&&◌, ◌||◌, ◌==◌, List, length}
use Rattle.std.specs.Prelude.{bytes_eq, Option, None, option_map, is_some}
use Rattle.std.specs.List.{list_all, list_any, find}
use Rattle.std.specs.Option.{option_or}
use Rattle.acct_desk.specs.declared.keys.Role.{Role}
use Rattle.acct_desk.specs.declared.keys.Role.TheVariants.{Account, Cashier, Clerk, Logins}
use Rattle.acct_desk.specs.declared.keys.DeskKey.{DeskKey}
use Rattle.acct_desk.specs.declared.keys.Signing.{Signing}
use Rattle.acct_desk.specs.SignedKeys.{signed_account}

-- the keys of a desk, and what it signs with, if it signs
pub record KeysFacts : Type 0 where
  pub list : List DeskKey
  pub signing : Option Signing

-- keys of a desk that signs nothing
abbrev pub bare : List DeskKey → KeysFacts
bare list = record { list = list; signing = None }

-- A to Z, a to z, 0 to 9 or `-`
abbrev pub is_token_octet : ℕ → Bool
is_token_octet octet =
    (nat_le 65 octet && nat_le octet 90) || (nat_le 97 octet && nat_le octet 122) ||
    (nat_le 48 octet && nat_le octet 57) || octet == 45

-- 16 to 64 of these characters
abbrev pub is_token_text : List ℕ → Bool
is_token_text token = nat_le 16 (length token) && nat_le (length token) 64 && list_all
    is_token_octet token

abbrev pub has_token : List ℕ → DeskKey → Bool
has_token token key = bytes_eq token key.token

-- what the key with this token lets its bearer do, if there is one
abbrev pub role_at : List ℕ → List DeskKey → Option Role
role_at token keys = option_map (λ key. key.role) (find (has_token token) keys)

-- What a token lets its bearer do at a moment: what the key of the list that has it does, else what
-- the own key of the account of a signed key does. No token of the list has a `.`, and each signed
-- key has two, so no token is both.
abbrev pub role_of_token : KeysFacts → ℕ → List ℕ → Option Role
role_of_token keys moment token =
    option_or (role_at token keys.list)
    (option_map Account (signed_account keys.signing moment token))

-- the bearer may ask about logins
abbrev pub lets_logins : Role → Bool
lets_logins (Account account) = false
lets_logins Cashier = false
lets_logins Clerk = false
lets_logins Logins = true

abbrev pub is_for_logins : DeskKey → Bool
is_for_logins key = lets_logins key.role

-- The desk tells of logins: it signs, and some key may ask about them.
abbrev pub serves_logins : KeysFacts → Bool
serves_logins keys = is_some keys.signing && list_any is_for_logins keys.list

-- the bearer may see the pages of any account
abbrev pub lets_accounts : Role → Bool
lets_accounts (Account account) = false
lets_accounts Cashier = false
lets_accounts Clerk = true
lets_accounts Logins = false

abbrev pub is_for_accounts : DeskKey → Bool
is_for_accounts key = lets_accounts key.role

-- The desk shows accounts: some key may see them.
abbrev pub shows_accounts : KeysFacts → Bool
shows_accounts keys = list_any is_for_accounts keys.list
