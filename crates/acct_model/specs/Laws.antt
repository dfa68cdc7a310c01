-- Laws of histories and shown octets, in the subject's own words. Functions of the module `laws`
-- have them as their contracts.
use Rattle.std.specs.Prelude.{◌≡◌, ◌≢◌, ℕ, ◌<◌, ◌≤◌, ◌↔◌, ◌⊎◌, IsTrue, Option, None, Some, List}
use Rattle.std.specs.Prelude.{[], ◌∷◌, ◌++◌, Contains, All}
use Rattle.std.specs.List.{IsDistinct}
use Rattle.percent_encoding.specs.Percent.{percent_decode}
use Rattle.acct_model.specs.declared.plan.Plan.{Plan}
use Rattle.acct_model.specs.Report.{ReportFacts}
use Rattle.acct_model.specs.Vouchers.{TopUpFacts}
use Rattle.acct_model.specs.Shown.{shown}
use Rattle.acct_model.specs.History.{History, SessionName, session_of, same_session, all_reports}
use Rattle.acct_model.specs.History.{reports, sessions, first_of, counted_of, greatest_counted}
use Rattle.acct_model.specs.History.{all_topups, topup_of, voucher_of, Voucher, same_voucher}
use Rattle.acct_model.specs.History.{vouchers, is_known}

-- shown octets read back
abbrev pub ShownReadsBack : Type 0
ShownReadsBack = (octets : List ℕ) → All (λ octet. octet < 256) octets
    → percent_decode (shown octets) ≡ octets

-- of a session's reports the first is the deepest, after any reports accepted later
abbrev pub FirstIsDeepest : Type 0
FirstIsDeepest = (later : List ReportFacts) (report : ReportFacts)
    → first_of (later ++ report ∷ []) ≡ Some report

-- the greatest number that a plan counts is that of one of the reports, and none is above it
pub record GreatestCountIsReached : Type 0 where
  pub reached : (plan : Option Plan) (report : ReportFacts) (older : List ReportFacts)
      → (one : ReportFacts) × Contains (report ∷ older) one
      × (counted_of plan one ≡ greatest_counted plan (report ∷ older))
  pub bound : (plan : Option Plan) (reports : List ReportFacts) (one : ReportFacts)
      → Contains reports one → counted_of plan one ≤ greatest_counted plan reports

-- the sessions are those of the reports, each once
pub record SessionsAreReported : Type 0 where
  pub listed : (history : History) (name : SessionName)
      → Contains (sessions history) name
      ↔ ((report : ReportFacts) × Contains (all_reports history) report
      × (session_of report ≡ name))
  pub once : (history : History) → IsDistinct same_session (sessions history)

-- the vouchers of an account are those of the top-ups to it, each once
pub record VouchersAreToppedUp : Type 0 where
  pub listed : (history : History) (account : List ℕ) (voucher : Voucher)
      → Contains (vouchers history account) voucher
      ↔ ((topup : TopUpFacts) × Contains (all_topups history) topup × (topup.account ≡ account)
      × (voucher_of topup ≡ voucher))
  pub once : (history : History) (account : List ℕ)
      → IsDistinct same_voucher (vouchers history account)

-- the account is the user of some session's first report
abbrev pub OwnsSession : History → List ℕ → Type 0
OwnsSession history account =
    (name : SessionName) × (first : ReportFacts) × (first_of (reports history name) ≡ Some first)
    × (first.user ≡ account)

-- the account has a top-up
abbrev pub OwnsVoucher : History → List ℕ → Type 0
OwnsVoucher history account =
    (topup : TopUpFacts) × Contains (all_topups history) topup × (topup.account ≡ account)

-- the accounts of a history are those that own a session or a voucher
abbrev pub KnownAccountsOwn : Type 0
KnownAccountsOwn = (history : History) (account : List ℕ)
    → IsTrue (is_known history account)
    ↔ (OwnsSession history account ⊎ OwnsVoucher history account)

-- The top-up by a number is one of the history's: no top-up by the number was accepted before it.
-- There is none exactly if the history has no top-up by the number.
pub record TopUpIsFirst : Type 0 where
  pub first : (history : History) (number : List ℕ) (topup : TopUpFacts)
      → topup_of history number ≡ Some topup
      → (later : List TopUpFacts) × (earlier : List TopUpFacts)
      × (all_topups history ≡ later ++ topup ∷ earlier) × (topup.voucher ≡ number)
      × All (λ other. other.voucher ≢ number) earlier
  pub none : (history : History) (number : List ℕ)
      → (topup_of history number ≡ None)
      ↔ All (λ topup. topup.voucher ≢ number) (all_topups history)
