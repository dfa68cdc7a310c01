-- The paths of the desk.
use Rattle.std.specs.Prelude.{ℕ, List, [], ◌∷◌, Option, Some, None, codes, bytes_eq, if◌then◌else◌}
use Rattle.std.specs.Prelude.{is_some, ◌&&◌}
use Rattle.std.specs.Option.{option_or}
use Rattle.matchit.specs.Rows.{RowsOf}
use Rattle.matchit.specs.Router.{RouteOf}
use Rattle.acct_desk.specs.declared.routes.Endpoint.{Endpoint}
use Rattle.acct_desk.specs.declared.routes.Endpoint.TheVariants.{Balance, Sessions, MyTopUps}
use Rattle.acct_desk.specs.declared.routes.Endpoint.TheVariants.{TopUps, Overruns, Logins, OpenSessions}
use Rattle.acct_desk.specs.declared.routes.Endpoint.TheVariants.{Accounts}
use Rattle.acct_desk.specs.Keys.{KeysFacts, serves_logins, shows_accounts}
use Rattle.acct_desk.specs.Paths.{login_path, part_path, account_path}

-- the endpoint at a path that is always there
abbrev pub fixed_endpoint : List ℕ → Option Endpoint
fixed_endpoint path =
    if bytes_eq (codes "/me/balance") path then Some Balance
    else if bytes_eq (codes "/me/sessions") path then Some Sessions
    else if bytes_eq (codes "/me/topups") path then Some MyTopUps
    else if bytes_eq (codes "/overruns") path then Some Overruns
    else if bytes_eq (codes "/topups") path then Some TopUps
    else None

-- what the site's front asks, at a desk that tells of logins
abbrev pub front_endpoint : List ℕ → Option Endpoint
front_endpoint path =
    if is_some (login_path path) then Some Logins
    else if is_some (part_path path) then Some OpenSessions
    else None

abbrev pub login_endpoint : KeysFacts → List ℕ → Option Endpoint
login_endpoint keys path = if serves_logins keys then front_endpoint path else None

-- the pages of any account, at a desk that shows accounts
abbrev pub account_endpoint : KeysFacts → List ℕ → Option Endpoint
account_endpoint keys path =
    if is_some (account_path path) && shows_accounts keys then Some Accounts else None

-- the endpoint at a path of a desk with these keys
abbrev pub endpoint_of : KeysFacts → List ℕ → Option Endpoint
endpoint_of keys path =
    option_or (fixed_endpoint path) (option_or (login_endpoint keys path) (account_endpoint keys path))

-- the method of an endpoint
abbrev pub method_of : Endpoint → List ℕ
method_of Balance = codes "GET"
method_of Sessions = codes "GET"
method_of MyTopUps = codes "GET"
method_of TopUps = codes "POST"
method_of Overruns = codes "GET"
method_of Logins = codes "GET"
method_of OpenSessions = codes "GET"
method_of Accounts = codes "GET"

-- a route without parameters
abbrev pub literal_row : List ℕ → Endpoint → List ℕ × RouteOf Endpoint
literal_row text endpoint = (
  text,
  record {
    pattern = text;
    text = text;
    names = [];
    value =
        endpoint;
  },
)

-- the rows of the desk's router
abbrev pub desk_rows : RowsOf (RouteOf Endpoint)
desk_rows =
    literal_row (codes "/me/balance") Balance
    ∷ literal_row (codes "/me/sessions") Sessions
    ∷ literal_row (codes "/me/topups") MyTopUps
    ∷ literal_row (codes "/overruns") Overruns
    ∷ literal_row (codes "/topups") TopUps
    ∷ []
