-- What `check --audit` does, and what it prints.
use Rattle.std.specs.Prelude.{◌≡◌, ◌⊎◌, ◌++◌, ◌==◌, ℕ, List, [], ◌∷◌, Option, Result, Ok, Err}
use Rattle.std.specs.Prelude.{codes, decimal, unwrap_or, pos, flat_map}
use Rattle.std.specs.Fmt.{signed_decimal}
use Rattle.std.specs.List.{concat}
use Rattle.std.specs.Prelude.{if◌then◌else◌}
use Rattle.std.specs.Io.KnownBytes.{Appends}
use Rattle.acct_model.specs.Shown.{shown}
use Rattle.acct_model.specs.declared.plan.Plan.{Plan}
use Rattle.acct_book.specs.declared.book.Book.{Ghosts}
use Rattle.acct_book.specs.Content.{Content}
use Rattle.acct_book.specs.Step.{Looks}
use Rattle.acct_book_audit.specs.Audit.{IsAudit}
use Rattle.acct_book_audit.specs.Balancing.{IsBalanced}
use Rattle.acct_book_audit.specs.Finding.{Finding, WrongAccount, StraySession, StrayVoucher}
use Rattle.acct_book_audit.specs.declared.auditor.Audit.{Audit}
use Rattle.acct_book_audit.specs.declared.statement.Statement.{Statement}
use Rattle.acct_program.specs.declared.status.Status.{Status}
use Rattle.acct_program.specs.declared.status.Status.TheVariants as status
use Rattle.acct_program_commands.specs.Checks.{sizes_line}
use Rattle.acct_program_commands.specs.declared.fault.Fault.{Fault}
use Rattle.acct_program_commands.specs.declared.fault.Fault.TheVariants as fault
use Rattle.acct_site.specs.declared.config.Config.{Config}

-- every account is balanced, by the rows and vouchers in the book
abbrev pub AllBalance : List Plan → Content → Type 0
AllBalance plans content = (account : List ℕ) → IsBalanced plans content account

-- `, and N sessions of no plan`, if there are any
abbrev pub unplanned_text : ℕ → List ℕ
unplanned_text count =
    if count == 0 then []
    else concat (codes ", and " ∷ decimal count ∷ codes " sessions of no plan" ∷ [])

-- `ACCOUNT: balance B, vouchers V, sessions S`: the balance kept, and what they come to
abbrev pub balance_text : List ℕ → Statement → List ℕ
balance_text account states = concat (
    shown account ∷ codes ": balance " ∷ signed_decimal (unwrap_or states.balance (pos 0))
    ∷ codes ", vouchers " ∷ decimal states.credited ∷ codes ", sessions " ∷ decimal states.charged
    ∷ [])

-- the line of a finding
abbrev pub finding_line : Finding → List ℕ
finding_line (WrongAccount account states) =
    balance_text account states ++ unplanned_text states.unplanned ++ 10 ∷ []
finding_line (StraySession row) = concat (
    shown row.account ∷ codes ": no balance, and the session " ∷ row.client ∷ codes " "
    ∷ shown row.session ∷ (10 ∷ []) ∷ [])
finding_line (StrayVoucher topup) = concat (
    shown topup.account ∷ codes ": no balance, and the voucher " ∷ topup.voucher ∷ (10 ∷ []) ∷ [])

-- `balanced: A accounts, S sessions, V vouchers`
abbrev pub balanced_line : Audit → List ℕ
balanced_line audit = concat (
    codes "balanced: " ∷ decimal audit.accounts.all ∷ codes " accounts, "
    ∷ decimal audit.sessions.all ∷ codes " sessions, " ∷ decimal audit.vouchers.all
    ∷ codes " vouchers" ∷ (10 ∷ []) ∷ [])

-- what is printed last, by how the audit ended
abbrev pub last_line : Result Status Fault → Audit → List ℕ
last_line (Ok ended) audit = balanced_line audit
last_line (Err told) audit = []

-- the audit went through the whole book
abbrev pub IsWhole : Result Status Fault → Type 0
IsWhole ended = (ended ≡ Ok status.Done) ⊎ (ended ≡ Err fault.Unbalanced)

-- The sizes of the configuration, a line for each finding in a content, and how many of each there
-- are if nothing was found.
abbrev pub TellsAudit : Config → Content → Result Status Fault → Option (List ℕ)
    → Option (List ℕ) → Type 0
TellsAudit config content ended before after = (audit : Audit) × (found : List Finding)
    × IsAudit config.plans content audit found
    × Appends before after
    (sizes_line config ++ flat_map finding_line found ++ last_line ended audit)

-- The book was only read. If the audit ended well, every account is balanced. If it ended as
-- unbalanced, some account is not. Each finding was printed, and nothing else of the book.
pub record Audits {B : Type 0} (b : Ghosts B) (config : Config) (before after : Option (List ℕ))
    (old new : B) (ended : Result Status Fault) : Type 0 where
  pub looks : Looks b old new ended
  pub balanced : b.is_open new → ended ≡ Ok status.Done
      → AllBalance config.plans (b.content old)
  pub unbalanced : b.is_open new → ended ≡ Err fault.Unbalanced
      → ¬ AllBalance config.plans (b.content old)
  pub printed : b.is_open new → IsWhole ended
      → TellsAudit config (b.content old) ended before after
