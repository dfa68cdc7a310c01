-- What a request asks for. The first of the desk's cases that applies settles it without the book.
-- If none does, it is a request to the book.
use Rattle.std.specs.Prelude.{◌≡◌, ℕ, ◌==◌, List, length, slice_range, codes, bytes_eq, Option}
use Rattle.std.specs.Prelude.{Some, None, option_and_then, option_map, if◌then◌else◌}
use Rattle.std.specs.List.{before_first, slice_get}
use Rattle.std.specs.Str.{is_utf8}
use Rattle.httparse.specs.Grammar.{RequestHead, print_request}
use Rattle.percent_encoding.specs.Percent.{percent_decode}
use Rattle.serde_json.specs.Data.{Data}
use Rattle.serde_json.specs.Read as json
use Rattle.acct_model.specs.declared.plan.Plan.{Plan}
use Rattle.acct_model.specs.Vouchers.{TopUpFacts}
use Rattle.acct_desk.specs.declared.framing.Reach.{Reach}
use Rattle.acct_desk.specs.declared.framing.Reach.TheVariants.{More, Whole, Bad, TooLarge}
use Rattle.acct_desk.specs.declared.routes.Endpoint.{Endpoint}
use Rattle.acct_desk.specs.declared.routes.Endpoint.TheVariants.{Balance, Sessions, MyTopUps}
use Rattle.acct_desk.specs.declared.routes.Endpoint.TheVariants.{TopUps, Overruns}
use Rattle.acct_desk.specs.declared.routes.Endpoint.TheVariants as at
use Rattle.acct_desk.specs.declared.keys.Role.{Role}
use Rattle.acct_desk.specs.declared.keys.Role.TheVariants.{Account, Cashier, Clerk}
use Rattle.acct_desk.specs.declared.keys.Role.TheVariants as role
use Rattle.acct_desk.specs.declared.keys.Signing.{Signing}
use Rattle.acct_desk.specs.declared.asking.Page.{Page}
use Rattle.acct_desk.specs.declared.asking.Page.TheVariants as page
use Rattle.acct_desk.specs.declared.asking.Refusal.{Refusal}
use Rattle.acct_desk.specs.declared.asking.Refusal.TheVariants as refusal
use Rattle.acct_desk.specs.Request.{IsHeadOf, reach_of, reach_of_fields, fields_of, values_of}
use Rattle.acct_desk.specs.Routes.{endpoint_of, method_of}
use Rattle.acct_desk.specs.Keys.{KeysFacts, role_of_token}
use Rattle.acct_desk.specs.Paths.{LoginPath, login_path, part_path, account_path}
use Rattle.acct_desk.specs.Logins.{Login, login_asked}
use Rattle.acct_desk.specs.TopUpBodies.{topup_of_value}

-- what the front of a site asks: what a login may use, or the open sessions of a part of the
-- accounts below 0, from the first or after one
pub data Query : Type 0 where
  login : Login → Query
  overdrawn : Option (List ℕ) → Query

-- what a request asks for: nothing that the desk accepts, a page of an account, the overdrawn
-- accounts, a question of the site's front, or a top-up
pub data Ask : Type 0 where
  refused : Refusal → Ask
  me : Page → List ℕ → Ask
  overruns : Ask
  look : Query → Ask
  credit : TopUpFacts → Ask

-- the body as JSON
abbrev pub json_of : List ℕ → Option Data
json_of body = if is_utf8 body then json.read body else None

abbrev pub ask_of_topup : Option TopUpFacts → Ask
ask_of_topup None = refused refusal.BadTopUp
ask_of_topup (Some topup) = credit topup

abbrev pub ask_of_json : Option Data → ℕ → Ask
ask_of_json None moment = refused refusal.BadRequest
ask_of_json (Some value) moment = ask_of_topup (topup_of_value value moment)

-- what a login's path asks for
abbrev pub ask_of_login : Option Login → Ask
ask_of_login None = refused refusal.BadLogin
ask_of_login (Some asked) = look (login asked)

abbrev pub ask_of_path : Option Signing → List Plan → ℕ → Option LoginPath → Ask
ask_of_path None plans moment path = refused refusal.NoPath
ask_of_path (Some signing) plans moment None = refused refusal.NoPath
ask_of_path (Some signing) plans moment (Some path) =
    ask_of_login (login_asked signing.secrets.secret plans moment path)

-- what the path of a part asks for
abbrev pub ask_of_part : Option (Option (List ℕ)) → Ask
ask_of_part None = refused refusal.NoPath
ask_of_part (Some after) = look (overdrawn (option_map percent_decode after))

-- what the path of a page of an account asks for: what the account's own key shows
abbrev pub ask_of_account : Option (Page × List ℕ) → Ask
ask_of_account None = refused refusal.NoPath
ask_of_account (Some (page, account)) = me page (percent_decode account)

-- the page that an account's key shows at an endpoint
abbrev pub own_page : Endpoint → Option Page
own_page Balance = Some page.Balance
own_page Sessions = Some page.Sessions
own_page MyTopUps = Some page.TopUps
own_page other = None

abbrev pub ask_of_own : Option Page → List ℕ → Ask
ask_of_own None account = refused refusal.NotAllowed
ask_of_own (Some page) account = me page account

-- what a request with this role asks for at this endpoint
abbrev pub ask_of_role : KeysFacts → List Plan → Endpoint → Role → List ℕ → List ℕ → ℕ → Ask
ask_of_role keys plans endpoint (Account account) path body moment =
    ask_of_own (own_page endpoint) account
ask_of_role keys plans TopUps Cashier path body moment = ask_of_json (json_of body) moment
ask_of_role keys plans Overruns Cashier path body moment = overruns
ask_of_role keys plans TopUps Clerk path body moment = ask_of_json (json_of body) moment
ask_of_role keys plans Overruns Clerk path body moment = overruns
ask_of_role keys plans at.Accounts Clerk path body moment = ask_of_account (account_path path)
ask_of_role keys plans at.Logins role.Logins path body moment =
    ask_of_path keys.signing plans moment (login_path path)
ask_of_role keys plans at.OpenSessions role.Logins path body moment =
    ask_of_part (part_path path)
ask_of_role keys plans endpoint other path body moment = refused refusal.NotAllowed

abbrev pub ask_of_key : KeysFacts → List Plan → Endpoint → Option Role → List ℕ → List ℕ → ℕ → Ask
ask_of_key keys plans endpoint None path body moment = refused refusal.NoKey
ask_of_key keys plans endpoint (Some role) path body moment =
    ask_of_role keys plans endpoint role path body moment

abbrev pub ask_of_endpoint : KeysFacts → List Plan → Option Endpoint → List ℕ → Option Role → List ℕ
    → List ℕ → ℕ → Ask
ask_of_endpoint keys plans None method role path body moment = refused refusal.NoPath
ask_of_endpoint keys plans (Some endpoint) method role path body moment =
    if bytes_eq method (method_of endpoint) then ask_of_key keys plans endpoint role path body moment
    else refused (refusal.WrongMethod endpoint)

-- the path of a target: up to its first `?`
abbrev pub path_of : List ℕ → List ℕ
path_of target = before_first (λ octet. octet == 63) target

-- the role of the key that the first value of Desk-Key is at a moment
abbrev pub role_of_fields : KeysFacts → ℕ → List (List ℕ × List ℕ) → Option Role
role_of_fields keys moment fields = option_and_then (role_of_token keys moment)
    (slice_get (values_of (codes "desk-key") fields) 0)

abbrev pub ask_of_reach : Reach → (ℕ → Ask) → Ask
ask_of_reach More next = refused refusal.BadRequest
ask_of_reach Bad next = refused refusal.BadRequest
ask_of_reach TooLarge next = refused refusal.TooLarge
ask_of_reach (Whole end) next = next end

-- what a request asks for, by the length, target, method and fields of its head
abbrev pub ask_of_fields : KeysFacts → List Plan → List ℕ → ℕ → ℕ → List ℕ → List ℕ
    → List (List ℕ × List ℕ) → Ask
ask_of_fields keys plans request moment head target method fields =
    ask_of_reach (reach_of_fields head (length request) fields) (λ end.
    ask_of_endpoint keys plans (endpoint_of keys (path_of target)) method
    (role_of_fields keys moment fields) (path_of target) (slice_range request head end) moment)

-- what the octets ask for, by the head that begins them, if there is one
abbrev pub ask_of : KeysFacts → List Plan → List ℕ → ℕ → Option RequestHead → Ask
ask_of keys plans request moment None =
    ask_of_reach (reach_of None (length request)) (λ _. refused refusal.BadRequest)
ask_of keys plans request moment (Some head) =
    ask_of_fields keys plans request moment (length (print_request head)) head.target head.method
    (fields_of head)

-- the octets of a request ask a desk with these keys and plans for this, at this moment
abbrev pub Asks : KeysFacts → List Plan → List ℕ → ℕ → Ask → Type 0
Asks keys plans request moment ask = (head : Option RequestHead) × IsHeadOf request head
    × (ask ≡ ask_of keys plans request moment head)
