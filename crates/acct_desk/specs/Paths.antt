-- Paths by their segments.
use Rattle.std.specs.Prelude.{ℕ, ◌==◌, List, [], ◌∷◌, length, take, drop, codes, bytes_eq}
use Rattle.std.specs.Prelude.{if◌then◌else◌, Option, Some, None, option_map, option_and_then}
use Rattle.acct_desk.specs.declared.asking.Page.{Page}
use Rattle.acct_desk.specs.declared.asking.Page.TheVariants as page

-- an octet in front of the first segment
abbrev pub in_front : ℕ → List (List ℕ) → List (List ℕ)
in_front octet [] = (octet ∷ []) ∷ []
in_front octet (segment ∷ more) = (octet ∷ segment) ∷ more

-- the segments of octets: what their slashes part
abbrev pub segments : List ℕ → List (List ℕ)
segments [] = [] ∷ []
segments (octet ∷ rest) =
    if octet == 47 then [] ∷ segments rest else in_front octet (segments rest)

-- what a path has behind its beginning, if it begins so
abbrev pub behind : List ℕ → List ℕ → Option (List ℕ)
behind start path =
    if bytes_eq (take (length start) path) start then Some (drop (length start) path) else None

-- ---- logins

-- the segments of a login's path, as they stand in it: the last two are a station and seconds
pub record LoginPath : Type 0 where
  pub account : List ℕ
  pub class : List ℕ
  pub login : List ℕ
  pub heard : Option (List ℕ × List ℕ)

-- ACCOUNT/CLASS, ACCOUNT/CLASS/LOGIN or ACCOUNT/CLASS/LOGIN/STATION/SECONDS
abbrev pub login_segments : List (List ℕ) → Option LoginPath
login_segments (account ∷ class ∷ []) =
    Some (record { account = account; class = class; login = []; heard = None })
login_segments (account ∷ class ∷ login ∷ []) =
    Some (record { account = account; class = class; login = login; heard = None })
login_segments (account ∷ class ∷ login ∷ station ∷ seconds ∷ []) =
    Some (record { account = account; class = class; login = login; heard = Some (station, seconds) })
login_segments other = None

-- the login at a path
abbrev pub login_path : List ℕ → Option LoginPath
login_path path = option_and_then login_segments (option_map segments (behind (codes "/logins/") path))

-- ---- accounts below 0

-- one segment
abbrev pub one_of : List (List ℕ) → Option (List ℕ)
one_of (segment ∷ []) = Some segment
one_of other = None

-- the account at a path after which a part of the accounts begins, as it stands in it
abbrev pub after_path : List ℕ → Option (List ℕ)
after_path path =
    option_and_then one_of (option_map segments (behind (codes "/overruns/sessions/after/") path))

-- the path of a part: of the first, or of the one after an account
abbrev pub part_path : List ℕ → Option (Option (List ℕ))
part_path path =
    if bytes_eq path (codes "/overruns/sessions") then Some None
    else option_map Some (after_path path)

-- ---- pages of any account

-- the page of this name
abbrev pub page_named : List ℕ → Option Page
page_named name =
    if bytes_eq name (codes "balance") then Some page.Balance
    else if bytes_eq name (codes "sessions") then Some page.Sessions
    else if bytes_eq name (codes "topups") then Some page.TopUps
    else None

-- ACCOUNT/PAGE
abbrev pub account_segments : List (List ℕ) → Option (Page × List ℕ)
account_segments (account ∷ name ∷ []) = option_map (λ p. (p, account)) (page_named name)
account_segments other = None

-- the page and the account at a path, as it stands in it
abbrev pub account_path : List ℕ → Option (Page × List ℕ)
account_path path =
    option_and_then account_segments (option_map segments (behind (codes "/accounts/") path))
