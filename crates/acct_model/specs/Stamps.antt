-- Stamps. At a login the desk says who pays and by which plan. The access server carries that as a
-- Class (RFC 2865, section 5.25) into the reports of the session, where it is read again.
use Rattle.std.specs.Prelude.{ℕ, nat_le, Bool, false, ◌&&◌, ◌||◌, ◌==◌, List}
use Rattle.std.specs.Prelude.{[], ◌∷◌, ◌++◌, length, codes, bytes_eq, if◌then◌else◌}
use Rattle.std.specs.Prelude.{Option, None, Some, option_and_then}
use Rattle.std.specs.Option.{option_map}
use Rattle.std.specs.List.{list_all, concat}
use Rattle.hex.specs.Hex.{encode_lower}
use Rattle.percent_encoding.specs.Percent.{percent_decode}
use Rattle.radius_codec.specs.Hmac.{hmac}
use Rattle.acct_model.specs.declared.stamp.Stamp.{Stamp}
use Rattle.acct_model.specs.declared.stamp.StampSecrets.{StampSecrets}
use Rattle.acct_model.specs.Coded.{coded}

-- 0 to 9 or a to f
abbrev pub is_login_digit : ℕ → Bool
is_login_digit octet = (nat_le 48 octet && nat_le octet 57) || (nat_le 97 octet && nat_le octet 102)

-- a login is 0 to 32 of these digits
abbrev pub is_login : List ℕ → Bool
is_login login = nat_le (length login) 32 && list_all is_login_digit login

-- What a stamp says, each field with a `;` behind it.
abbrev pub stamp_text : Stamp → List ℕ
stamp_text stamp =
    concat (coded stamp.plan ∷ codes ";" ∷ stamp.login ∷ codes ";" ∷ coded stamp.name ∷ codes ";"
    ∷ [])

-- The signature of a text of a kind under a secret: HMAC-MD5 (RFC 2104) in lower-case hexadecimal
-- digits. No kind begins another, so a text of one kind is never signed as one of another.
abbrev pub signature : List ℕ → List ℕ → List ℕ → List ℕ
signature kind secret text = encode_lower (hmac secret (kind ++ text))

-- The stamp under a secret.
abbrev pub stamp_of : List ℕ → Stamp → List ℕ
stamp_of secret stamp =
    concat (stamp_text stamp ∷ signature (codes "stamp;") secret (stamp_text stamp) ∷ [])

-- a secret that may be absent made this value of a stamp
abbrev pub is_made_by : Option (List ℕ) → List ℕ → Stamp → Bool
is_made_by None value stamp = false
is_made_by (Some secret) value stamp = bytes_eq value (stamp_of secret stamp)

-- The secret of the site, or the one that it had before, made this value of a stamp.
abbrev pub is_made : StampSecrets → List ℕ → Stamp → Bool
is_made secrets value stamp =
    is_made_by (Some secrets.secret) value stamp || is_made_by secrets.old value stamp

-- ---- stamps read

-- the octets before the first `;`, and those behind it
abbrev pub cut : List ℕ → Option (List ℕ × List ℕ)
cut [] = None
cut (octet ∷ rest) =
    if octet == 59 then Some ([], rest)
    else option_map (λ parts. (octet ∷ parts.0, parts.1)) (cut rest)

-- the three fields that have a `;` behind them
abbrev pub fields : List ℕ → Option (List ℕ × List ℕ × List ℕ)
fields value =
    option_and_then (λ one. option_and_then (λ two. option_map
    (λ three. (one.0, two.0, three.0)) (cut two.1)) (cut one.1)) (cut value)

-- what these fields say
abbrev pub stamp_in : List ℕ × List ℕ × List ℕ → Stamp
stamp_in parts = record {
  plan = percent_decode parts.0;
  login = parts.1;
  name = percent_decode parts.2;
}

-- what the fields say, if they are those of a stamp of the site
abbrev pub stamp_kept : StampSecrets → List ℕ → Option (List ℕ × List ℕ × List ℕ) → Option Stamp
stamp_kept secrets value None = None
stamp_kept secrets value (Some parts) =
    if is_login parts.1 && is_made secrets value (stamp_in parts) then Some (stamp_in parts)
    else None

-- The stamp that a value is, if it is one of the site's. A Class has 253 octets at most.
abbrev pub stamp_read : StampSecrets → List ℕ → Option Stamp
stamp_read secrets value =
    if nat_le (length value) 253 then stamp_kept secrets value (fields value) else None

-- ---- sessions

-- The name that a session of a stamped client has behind its own id: which login it is of, and who
-- pays for it.
abbrev pub stamped_session : List ℕ → Stamp → List ℕ
stamped_session id stamp =
    concat (id ∷ codes "/" ∷ stamp.login ∷ codes "/" ∷ coded stamp.name ∷ [])
