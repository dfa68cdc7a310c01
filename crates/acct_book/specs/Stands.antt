-- What it means that a content stands for a history.
use Rattle.std.specs.Prelude.{◌≡◌, ℕ, if◌then◌else◌, List, Option, Some, None, IfSome}
use Rattle.acct_model.specs.declared.plan.Plan.{Plan}
use Rattle.acct_model.specs.Plans.{plan_for}
use Rattle.acct_model.specs.History.{History, topup_of, balance_of, is_known, AreInRange}
use Rattle.acct_book.specs.declared.key.Key.{Key}
use Rattle.acct_book.specs.Rows.{row_of}
use Rattle.acct_book.specs.Content.{Content}

-- If a book keeps a list of plans, these are its plans, in any order: each class has the same plan
-- by both.
abbrev pub AreKept : List Plan → Option (List ℕ → Option Plan) → Type 0
AreKept plans kept = IfSome kept
    (λ plan_of. (class : List ℕ) → plan_of class ≡ plan_for plans class)

-- The rows are those of the history's sessions, the balances those of the accounts that own a
-- session or a voucher. The top-ups are the first of each number, and every balance is in range. If
-- the book keeps a list of plans, these are its plans.
pub record Stands (plans : List Plan) (content : Content) (history : History) : Type 0 where
  pub rows : (key : Key) → content.rows key ≡ row_of plans history key
  pub balances : (account : List ℕ) → content.balances account
      ≡ (if is_known history account then Some (balance_of plans history account) else None)
  pub topups : (number : List ℕ) → content.topups number ≡ topup_of history number
  pub kept : AreKept plans content.plans
  pub in_range : AreInRange plans history
