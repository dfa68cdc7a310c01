-- The open sessions of accounts below 0, which the site's front may end.
use Rattle.std.specs.Prelude.{ℕ, ◌-◌, ◌==◌, Bool, List, [], ◌∷◌, length, take, drop, codes, bytes_eq}
use Rattle.std.specs.Prelude.{Option, Some, None, if◌then◌else◌}
use Rattle.std.specs.List.{filter_map, concat, before_first, after_first}
use Rattle.serde_json.specs.Data.{Data, null, string, number, unsigned, array, object, member}
use Rattle.serde_json.specs.Data.{no_members}
use Rattle.serde_json.specs.View.{items_of}
use Rattle.acct_model.specs.Coded.{coded}
use Rattle.acct_model.specs.Shown.{shown, shown_address}
use Rattle.acct_model.specs.Stamps.{is_login}
use Rattle.acct_book.specs.Row.{RowFacts}
use Rattle.acct_desk_pages.specs.Logins.{is_open}

-- ---- the id that the access server gave a session

-- what is before the last slash of octets, and what is behind it
abbrev pub cut_last_by : ℕ → List ℕ → Option (List ℕ × List ℕ) → Option (List ℕ × List ℕ)
cut_last_by octet rest (Some parts) = Some (octet ∷ parts.0, parts.1)
cut_last_by octet rest None = if octet == 47 then Some ([], rest) else None

abbrev pub cut_last : List ℕ → Option (List ℕ × List ℕ)
cut_last [] = None
cut_last (octet ∷ rest) = cut_last_by octet rest (cut_last rest)

-- octets without their end, if they end so
abbrev pub without_end : List ℕ → List ℕ → Option (List ℕ)
without_end end octets =
    if bytes_eq (drop (length octets - length end) octets) end
    then Some (take (length octets - length end) octets) else None

-- what is before `/LOGIN`, if octets end so, else the whole session
abbrev pub before_login : List ℕ → Option (List ℕ × List ℕ) → List ℕ
before_login session None = session
before_login session (Some parts) = if is_login parts.1 then parts.0 else session

abbrev pub before_payer : List ℕ → Option (List ℕ) → List ℕ
before_payer session None = session
before_payer session (Some rest) = before_login session (cut_last rest)

-- The id that the access server gave a session. The name of a stamped client's session has the
-- login and the payer behind it, as `ID/LOGIN/PAYER`. Another client's is the id itself; one that
-- ends in the same way by chance loses its end here.
abbrev pub own_id : List ℕ → List ℕ → List ℕ
own_id account session =
    before_payer session (without_end (concat (codes "/" ∷ coded account ∷ [])) session)

-- ---- the body

-- a slash
abbrev pub is_slash : ℕ → Bool
is_slash octet = octet == 47

-- One session. A client that stands for devices is named `NAME/DEVICE`.
unfoldable pub open_item : RowFacts → Data
open_item row =
    object (member (codes "account") (string (shown row.account))
    (member (codes "calling") (string (shown row.calling))
    (member (codes "client") (string (before_first is_slash row.client))
    (member (codes "device") (string (after_first is_slash row.client))
    (member (codes "framed") (string (shown_address row.framed))
    (member (codes "id") (string (shown (own_id row.account row.session)))
    (member (codes "last") (number (unsigned row.last))
    (member (codes "session") (string (shown row.session)) no_members))))))))

-- the session of a row, if it is open
abbrev pub open_in : RowFacts → Option Data
open_in row = if is_open row then Some (open_item row) else None

-- an account as a path spells it, or null
abbrev pub spelled_or_null : Option (List ℕ) → Data
spelled_or_null None = null
spelled_or_null (Some account) = string (coded account)

-- the body with the open sessions of these rows, and the account to go on from
abbrev pub open_sessions_body : Option (List ℕ) → List RowFacts → Data
open_sessions_body next rows =
    object (member (codes "next") (spelled_or_null next)
    (member (codes "sessions") (array (items_of (filter_map open_in rows))) no_members))
