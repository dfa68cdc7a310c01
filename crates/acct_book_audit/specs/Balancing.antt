-- The trial balance of an account: what its balance must be, by the rows and top-ups of a content.
use Rattle.std.specs.Prelude.{◌≡◌, ℕ, ◌+◌, ◌==◌, ℤ, pos, ◌-ℤ◌, Bool, true, false, ◌&&◌, not, List}
use Rattle.std.specs.Prelude.{Option, Some, None, All, length, if◌then◌else◌}
use Rattle.std.specs.List.{list_any, sum_by, count_by}
use Rattle.std.specs.Ordering.{int_eq}
use Rattle.acct_model.specs.declared.plan.Plan.{Plan}
use Rattle.acct_model.specs.Plans.{has_class}
use Rattle.acct_model.specs.Vouchers.{TopUpFacts}
use Rattle.acct_book.specs.Row.{RowFacts}
use Rattle.acct_book.specs.Content.{Content}
use Rattle.acct_book.specs.Charge.{charge_of_row}
use Rattle.acct_book.specs.Walk.{AreRowsOf, AreTopUpsOf}
use Rattle.acct_book_audit.specs.declared.statement.Statement.{Statement}

-- ---- what a content says

-- some plan has the class that a row keeps
abbrev pub is_planned : List Plan → RowFacts → Bool
is_planned plans row = list_any (has_class row.plan) plans

-- what top-ups credit
abbrev pub credited_by : List TopUpFacts → ℕ
credited_by topups = sum_by (λ topup. topup.sum) topups

-- what the sessions of rows cost
abbrev pub charged_by : List Plan → List RowFacts → ℕ
charged_by plans rows = sum_by (charge_of_row plans) rows

-- the balance that must be kept for an account with so many sessions and vouchers: what the
-- vouchers credit, less what the sessions cost; none if it has neither
abbrev pub due_balance : ℕ → ℕ → ℕ → ℕ → Option ℤ
due_balance sessions vouchers credited charged =
    if sessions + vouchers == 0 then None else Some (pos credited -ℤ pos charged)

-- By its rows and its top-ups an account has the right balance, and each row is of some plan.
pub record IsRight (plans : List Plan) (rows : List RowFacts) (topups : List TopUpFacts)
    (balance : Option ℤ) : Type 0 where
  pub planned : All (λ row. is_planned plans row ≡ true) rows
  pub due : balance ≡ due_balance (length rows) (length topups) (credited_by topups)
      (charged_by plans rows)

-- an account is balanced, by its rows and its top-ups in the content
abbrev pub IsBalanced : List Plan → Content → List ℕ → Type 0
IsBalanced plans content account = (rows : List RowFacts) (topups : List TopUpFacts)
    → AreRowsOf content account rows → AreTopUpsOf content account topups
    → IsRight plans rows topups (content.balances account)

-- ---- what a statement says

-- what a row costs, if a plan has its class
abbrev pub planned_charge : List Plan → RowFacts → ℕ
planned_charge plans row = if is_planned plans row then charge_of_row plans row else 0

-- a statement says what these rows and top-ups add up to
pub record States (plans : List Plan) (rows : List RowFacts) (topups : List TopUpFacts)
    (statement : Statement) : Type 0 where
  pub sessions : statement.sessions ≡ length rows
  pub vouchers : statement.vouchers ≡ length topups
  pub credited : statement.credited ≡ credited_by topups
  pub charged : statement.charged ≡ sum_by (planned_charge plans) rows
  pub unplanned : statement.unplanned ≡ count_by (λ row. not (is_planned plans row)) rows

-- a statement says what the rows and top-ups of an account add up to, and has the balance kept
pub record IsStatement (plans : List Plan) (content : Content) (account : List ℕ)
    (kept : Option ℤ) (statement : Statement) : Type 0 where
  pub rows : List RowFacts
  pub topups : List TopUpFacts
  pub are_rows : AreRowsOf content account rows
  pub are_topups : AreTopUpsOf content account topups
  pub states : States plans rows topups statement
  pub balance : statement.balance ≡ kept

-- one is the other, or neither is there
abbrev pub same_balance : Option ℤ → Option ℤ → Bool
same_balance None None = true
same_balance None (Some b) = false
same_balance (Some a) None = false
same_balance (Some a) (Some b) = int_eq a b

-- by a statement the balance is right
abbrev pub is_right : Statement → Bool
is_right statement =
    statement.unplanned == 0
    && same_balance statement.balance (due_balance statement.sessions statement.vouchers
    statement.credited statement.charged)
