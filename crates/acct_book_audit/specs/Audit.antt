-- What an audit of a whole book returns and reports.
use Rattle.std.specs.Prelude.{◌≡◌, ℕ, ℤ, List, [], ◌∷◌, ◌++◌, Some, None, Contains}
use Rattle.std.specs.Prelude.{flat_map, length, is_some, if◌then◌else◌}
use Rattle.std.specs.List.Sorted.{IsStrictlySortedBy}
use Rattle.std.specs.Map.{keys_of}
use Rattle.acct_model.specs.declared.plan.Plan.{Plan}
use Rattle.acct_model.specs.Vouchers.{TopUpFacts}
use Rattle.acct_book.specs.declared.key.Key.{Key}
use Rattle.acct_book.specs.Row.{RowFacts}
use Rattle.acct_book.specs.Content.{Content}
use Rattle.acct_book.specs.Maps.{octets_cmp, key_cmp}
use Rattle.acct_book.specs.Walk.{AreAllPast}
use Rattle.acct_book_audit.specs.declared.statement.Statement.{Statement}
use Rattle.acct_book_audit.specs.declared.auditor.Seen.{Seen}
use Rattle.acct_book_audit.specs.declared.auditor.Audit.{Audit}
use Rattle.acct_book_audit.specs.Balancing.{IsStatement, is_right}
use Rattle.acct_book_audit.specs.Finding.{Finding, WrongAccount, StraySession, StrayVoucher}

-- what is found of an account, by its statement
abbrev pub account_findings : List ℕ → Statement → List Finding
account_findings account statement =
    if is_right statement then [] else WrongAccount account statement ∷ []

-- what is found of a session: that no balance is kept for its account
abbrev pub session_findings : Content → RowFacts → List Finding
session_findings content row =
    if is_some (content.balances row.account) then [] else StraySession row ∷ []

-- what is found of a top-up: that no balance is kept for its account
abbrev pub voucher_findings : Content → TopUpFacts → List Finding
voucher_findings content topup =
    if is_some (content.balances topup.account) then [] else StrayVoucher topup ∷ []

-- Each account for which a balance is kept, once and in order, with its statement.
pub record AreAccounts (plans : List Plan) (content : Content)
    (accounts : List (List ℕ × Statement)) : Type 0 where
  pub in_order : IsStrictlySortedBy octets_cmp (keys_of accounts)
  pub state : (account : List ℕ) (statement : Statement)
      → Contains accounts (account, statement)
      → (balance : ℤ) × (content.balances account ≡ Some balance)
      × IsStatement plans content account (Some balance) statement
  pub all : (account : List ℕ) (balance : ℤ) → content.balances account ≡ Some balance
      → (statement : Statement) × Contains accounts (account, statement)

-- nothing is wrong
pub record IsClean (audit : Audit) : Type 0 where
  pub accounts : audit.accounts.wrong ≡ 0
  pub sessions : audit.sessions.wrong ≡ 0
  pub vouchers : audit.vouchers.wrong ≡ 0

-- so many were seen, and of so many of them something was found
pub record Counts (seen : Seen) (members found : ℕ) : Type 0 where
  pub all : seen.all ≡ members
  pub wrong : seen.wrong ≡ found

-- An audit read each account, each session and each voucher, once and in order, and found just what
-- is wrong with each.
pub record IsAudit (plans : List Plan) (content : Content) (audit : Audit)
    (findings : List Finding) : Type 0 where
  pub accounts : List (List ℕ × Statement)
  pub sessions : List (Key × RowFacts)
  pub topups : List (List ℕ × TopUpFacts)
  pub are_accounts : AreAccounts plans content accounts
  pub are_sessions : AreAllPast key_cmp content.rows None sessions
  pub are_topups : AreAllPast octets_cmp content.topups None topups
  pub of_accounts : Counts audit.accounts (length accounts)
      (length (flat_map (λ a. account_findings a.0 a.1) accounts))
  pub of_sessions : Counts audit.sessions (length sessions)
      (length (flat_map (λ s. session_findings content s.1) sessions))
  pub of_vouchers : Counts audit.vouchers (length topups)
      (length (flat_map (λ t. voucher_findings content t.1) topups))
  pub found : findings ≡ flat_map (λ a. account_findings a.0 a.1) accounts
      ++ flat_map (λ s. session_findings content s.1) sessions
      ++ flat_map (λ t. voucher_findings content t.1) topups
