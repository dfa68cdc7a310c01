-- Signed keys. A site's own portal makes them without a line in the configuration: the account and
-- the last second, signed.
use Rattle.std.specs.Prelude.{ℕ, nat_le, Bool, false, not, ◌&&◌, ◌||◌, ◌==◌, List, [], ◌∷◌}
use Rattle.std.specs.Prelude.{codes, decimal, bytes_eq, if◌then◌else◌, Option, None, Some}
use Rattle.std.specs.List.{concat, list_any, before_first, after_first}
use Rattle.std.specs.Result.{result_ok}
use Rattle.hex.specs.Hex.{encode_lower, decode_of}
use Rattle.acct_model.specs.declared.stamp.StampSecrets.{StampSecrets}
use Rattle.acct_model.specs.Numbers.{number_of}
use Rattle.acct_model.specs.Stamps.{signature}
use Rattle.acct_desk.specs.declared.keys.Signing.{Signing}
use Rattle.acct_desk.specs.declared.signed_key.SignedKey.{SignedKey}
use Rattle.acct_desk.specs.declared.signed_key.Withdrawn.{Withdrawn}

-- What a key says, each part with a `.` behind it. No token of the configuration has a `.`.
abbrev pub key_text : SignedKey → List ℕ
key_text key =
    concat (encode_lower key.account ∷ codes "." ∷ decimal key.until ∷ codes "." ∷ [])

-- the key under a secret
abbrev pub key_of : List ℕ → SignedKey → List ℕ
key_of secret key = concat (key_text key ∷ signature (codes "key;") secret (key_text key) ∷ [])

-- a secret that may be absent made this value of a key
abbrev pub is_made_by : Option (List ℕ) → List ℕ → SignedKey → Bool
is_made_by None value key = false
is_made_by (Some secret) value key = bytes_eq value (key_of secret key)

-- The secret of the site, or the one that it had before, made this value of a key.
abbrev pub is_made : StampSecrets → List ℕ → SignedKey → Bool
is_made secrets value key =
    is_made_by (Some secrets.secret) value key || is_made_by secrets.old value key

-- The key that a desk makes, if it signs: never by the secret that it had before.
abbrev pub made_key : Option Signing → SignedKey → Option (List ℕ)
made_key None key = None
made_key (Some signing) key = Some (key_of signing.secrets.secret key)

-- ---- keys read

abbrev pub is_dot : ℕ → Bool
is_dot octet = octet == 46

abbrev pub key_with : Option ℕ → Option (List ℕ) → Option SignedKey
key_with None account = None
key_with (Some until) None = None
key_with (Some until) (Some account) = Some (record { account = account; until = until })

-- what the parts of a value say
abbrev pub key_in : List ℕ → Option SignedKey
key_in value =
    key_with (number_of 20 (before_first is_dot (after_first is_dot value)))
    (result_ok (decode_of (before_first is_dot value)))

-- what the parts say, if a secret of the site made the value of it
abbrev pub key_kept : StampSecrets → List ℕ → Option SignedKey → Option SignedKey
key_kept secrets value None = None
key_kept secrets value (Some key) = if is_made secrets value key then Some key else None

-- The key that a value is, if it is one of the site's.
abbrev pub key_read : StampSecrets → List ℕ → Option SignedKey
key_read secrets value = key_kept secrets value (key_in value)

-- ---- keys in force

-- A withdrawal ends the keys of its account whose last second is not after it.
abbrev pub is_ended_by : SignedKey → Withdrawn → Bool
is_ended_by key withdrawn =
    bytes_eq withdrawn.account key.account && nat_le key.until withdrawn.until

-- At this moment the key's last second is not past, and it is not withdrawn.
abbrev pub is_in_force : List Withdrawn → ℕ → SignedKey → Bool
is_in_force withdrawn moment key =
    nat_le moment key.until && not (list_any (is_ended_by key) withdrawn)

abbrev pub account_in_force : List Withdrawn → ℕ → Option SignedKey → Option (List ℕ)
account_in_force withdrawn moment None = None
account_in_force withdrawn moment (Some key) =
    if is_in_force withdrawn moment key then Some key.account else None

-- The account of the signed key that a value is, if it is one and in force. A desk that signs
-- nothing takes none.
abbrev pub signed_account : Option Signing → ℕ → List ℕ → Option (List ℕ)
signed_account None moment value = None
signed_account (Some signing) moment value =
    account_in_force signing.withdrawn.items moment (key_read signing.secrets value)
