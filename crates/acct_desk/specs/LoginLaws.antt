-- Laws of what is said at a login.
use Rattle.std.specs.Prelude.{◌≡◌, ℕ, ◌+◌, ◌<◌, ◌≤◌, Some, List, [], ◌∷◌, All, ℤ, pos, ◌≤ℤ◌, true}
use Rattle.std.specs.Prelude.{Option}
use Rattle.acct_model.specs.declared.stamp.Stamp.{Stamp}
use Rattle.acct_model.specs.declared.stamp.StampSecrets.{StampSecrets}
use Rattle.acct_model.specs.StampLaws.{AreOctets}
use Rattle.acct_model.specs.Stamps.{is_login, stamp_read, stamped_session}
use Rattle.acct_desk_pages.specs.declared.login.Heard.{Heard}
use Rattle.acct_desk.specs.Logins.{Login, login_of, login_stamp}
use Rattle.acct_model.specs.declared.plan.Plan.{Plan}
use Rattle.acct_model.specs.declared.entry.Entry.TheVariants as entry
use Rattle.acct_model.specs.Report.{ReportFacts}
use Rattle.acct_model.specs.Plans.{price_of}
use Rattle.acct_model.specs.History.{Accepted, History, SessionName, session_of, reports, plan_of}
use Rattle.acct_model.specs.History.{greatest_counted, balance_of}
use Rattle.acct_desk_pages.specs.Logins.{credit_of, paid_octets}
use Rattle.acct_desk_pages.specs.Overdrawn.{own_id}

-- A session whose counted number rises by at most what a balance pays costs at most the balance
-- more, wherever in a block it stands.
abbrev pub PaidOctetsCostTheBalance : Type 0
PaidOctetsCostTheBalance = (plan : Plan) (balance : ℤ) (paid before after : ℕ)
    → 0 < plan.block → paid_octets plan balance ≡ Some paid → after ≤ before + paid
    → price_of plan after ≤ price_of plan before + credit_of balance

-- the history with these reports after it, of which the first is the newest
abbrev pub with_reports : List ReportFacts → History → History
with_reports [] history = history
with_reports (report ∷ older) history = Accepted (entry.Report report) ∷ with_reports older history

-- A login was told what the balance of its account pays by a plan. Then only reports of one session
-- of that plan are accepted, new or not, and its greatest counted number rises by at most what was
-- said. The balance stays at 0 or above.
abbrev pub LoginKeepsBalance : Type 0
LoginKeepsBalance = (plans : List Plan) (history : History) (account : List ℕ) (name : SessionName)
    (plan : Plan) (paid : ℕ) (later : List ReportFacts)
    → All (λ report. session_of report ≡ name) later
    → plan_of plans (with_reports later history) name ≡ Some plan → 0 < plan.block
    → pos 0 ≤ℤ balance_of plans history account
    → paid_octets plan (balance_of plans history account) ≡ Some paid
    → greatest_counted (Some plan) (reports (with_reports later history) name)
    ≤ greatest_counted (Some plan) (reports history name) + paid
    → pos 0 ≤ℤ balance_of plans (with_reports later history) account

-- The id that an access server gave a stamped session is read from the session's name as it was.
abbrev pub IdsAreRead : Type 0
IdsAreRead = (id : List ℕ) (stamp : Stamp) → is_login stamp.login ≡ true
    → own_id stamp.name (stamped_session id stamp) ≡ id

-- The stamp that a login is told is read by the site as its plan, its login and its account.
abbrev pub ToldStampsAreRead : Type 0
ToldStampsAreRead = (secrets : StampSecrets) (plan : Plan) (account login : List ℕ)
    (heard : Option (Option Heard)) (asked : Login) → AreOctets plan.class → AreOctets account
    → login_of secrets.secret (Some plan) account login heard ≡ Some asked
    → stamp_read secrets asked.stamp ≡ Some (login_stamp plan login account)
