-- What an account sees of a history.
use Rattle.std.specs.Prelude.{◌≡◌, ◌≢◌, ℕ, ℤ, bytes_eq, true, List, ◌∷◌, Option, Some, None}
use Rattle.std.specs.Prelude.{if◌then◌else◌}
use Rattle.acct_model.specs.declared.plan.Plan.{Plan}
use Rattle.acct_model.specs.declared.entry.Entry.TheVariants as entry
use Rattle.acct_model.specs.Report.{ReportFacts}
use Rattle.acct_model.specs.Vouchers.{TopUpFacts}
use Rattle.acct_model.specs.History.{Accepted, History, topup_of, balance_of}
use Rattle.acct_book.specs.declared.key.Key.{Key}
use Rattle.acct_book.specs.Row.{RowFacts}
use Rattle.acct_book.specs.Rows.{row_of}
use Rattle.acct_book.specs.Content.{key_of}
use Rattle.acct_book.specs.Maps.{octets_cmp, key_cmp}
use Rattle.acct_book.specs.Walk.{AreMembers}
use Rattle.acct_book.specs.Outcome.{account_of}

-- a balance, the rows of sessions by their keys, the first top-up of each voucher's number
pub record Part : Type 0 where
  pub balance : ℤ
  pub rows : Key → Option RowFacts
  pub topups : List ℕ → Option TopUpFacts

-- the row, if the account is charged for it
abbrev pub own_row : List ℕ → Option RowFacts → Option RowFacts
own_row account None = None
own_row account (Some row) = if bytes_eq account row.account then Some row else None

-- the top-up, if it is to the account
abbrev pub own_topup : List ℕ → Option TopUpFacts → Option TopUpFacts
own_topup account None = None
own_topup account (Some topup) = if bytes_eq account topup.account then Some topup else None

-- the part of an account: its balance, the rows of the sessions that it owns, the first top-up of
-- each of its numbers
abbrev pub part_of : List Plan → History → List ℕ → Part
part_of plans history account = record {
  balance = balance_of plans history account;
  rows = λ key. own_row account (row_of plans history key);
  topups = λ number. own_topup account (topup_of history number);
}

-- the rows of a part, each once, in the order of client and session
abbrev pub AreRowsIn : Part → List RowFacts → Type 0
AreRowsIn part rows = AreMembers key_cmp key_of part.rows (λ row. true) rows

-- the top-ups of a part, each once, in the order of their numbers
abbrev pub AreTopUpsIn : Part → List TopUpFacts → Type 0
AreTopUpsIn part topups = AreMembers octets_cmp (λ topup. topup.voucher) part.topups
    (λ topup. true) topups

-- A report of a session that another account owns with it, and a top-up to another account, leave
-- the part of an account as it is.
pub record OtherPartsStay (plans : List Plan) (history : History)
    (account : List ℕ) : Type 0 where
  pub reports : (report : ReportFacts) → account_of history (entry.Report report) ≢ Some account
      → part_of plans (Accepted (entry.Report report) ∷ history) account
      ≡ part_of plans history account
  pub topups : (topup : TopUpFacts) → topup.account ≢ account
      → part_of plans (Accepted (entry.TopUp topup) ∷ history) account
      ≡ part_of plans history account
