-- What a login asks: who pays, by which plan, and the stamp that says so.
use Rattle.std.specs.Prelude.{ℕ, ◌-◌, nat_le, ◌&&◌, List, [], length, codes, bytes_eq}
use Rattle.std.specs.Prelude.{if◌then◌else◌, Option, Some, None}
use Rattle.percent_encoding.specs.Percent.{percent_decode}
use Rattle.acct_model.specs.declared.plan.Plan.{Plan}
use Rattle.acct_model.specs.declared.stamp.Stamp.{Stamp}
use Rattle.acct_model.specs.Numbers.{number_of}
use Rattle.acct_model.specs.Plans.{plan_for}
use Rattle.acct_model.specs.Stamps.{is_login, stamp_of}
use Rattle.acct_model.specs.Vouchers.{is_voucher_account}
use Rattle.acct_desk_pages.specs.declared.login.Heard.{Heard}
use Rattle.acct_desk.specs.Paths.{LoginPath}

-- a login: the account that pays, the plan, the stamp, and since when other stations count
pub record Login : Type 0 where
  pub account : List ℕ
  pub plan : Plan
  pub stamp : List ℕ
  pub heard : Option Heard

-- the digits of a LOGIN, for which `-` stands if there are none
abbrev pub login_named : List ℕ → List ℕ
login_named text = if bytes_eq text (codes "-") then [] else text

-- since when other stations count at a moment, if SECONDS is a number of 1 to 10 digits
abbrev pub heard_within : ℕ → List ℕ → Option ℕ → Option (Option Heard)
heard_within moment station None = None
heard_within moment station (Some seconds) =
    Some (Some (record { station = station; since = moment - seconds }))

abbrev pub heard_asked : ℕ → Option (List ℕ × List ℕ) → Option (Option Heard)
heard_asked moment None = Some None
heard_asked moment (Some parts) =
    heard_within moment (percent_decode parts.0) (number_of 10 (percent_decode parts.1))

-- the stamp of a login
abbrev pub login_stamp : Plan → List ℕ → List ℕ → Stamp
login_stamp plan login account = record { plan = plan.class; login = login; name = account }

-- the login of these parts, if they are in their bounds: a Class has 253 octets at most
abbrev pub login_of : List ℕ → Option Plan → List ℕ → List ℕ → Option (Option Heard) → Option Login
login_of secret None account login heard = None
login_of secret (Some plan) account login None = None
login_of secret (Some plan) account login (Some heard) =
    let stamp = stamp_of secret (login_stamp plan login account) in
    if is_voucher_account account && is_login login && nat_le (length stamp) 253
    then Some (record { account = account; plan = plan; stamp = stamp; heard = heard })
    else None

-- The login that a path asks for. A class without a plan is stamped, and counted, as `default`.
abbrev pub login_asked : List ℕ → List Plan → ℕ → LoginPath → Option Login
login_asked secret plans moment path =
    login_of secret (plan_for plans (percent_decode path.class)) (percent_decode path.account)
    (login_named (percent_decode path.login)) (heard_asked moment path.heard)
