-- What is in a table, column by column.
use Rattle.std.specs.Prelude.{◌≡◌, ℕ, ℤ, suc, true, List, [], ◌∷◌, None}
use Rattle.sqlite.specs.declared.types.Value.{Value}
use Rattle.sqlite.specs.declared.types.Value.TheVariants.{Int, Blob}
use Rattle.sqlite.specs.Order.{Row}
use Rattle.sqlite.specs.Tree.{Trees}
use Rattle.sqlite_rules.specs.Lists.{Has}
use Rattle.acct_model.specs.declared.plan.Plan.{Plan}
use Rattle.acct_model.specs.Plans.{plan_for}
use Rattle.acct_model.specs.PlanFaults.{plans_fault}
use Rattle.acct_model.specs.Vouchers.{TopUpFacts}
use Rattle.acct_model.specs.History.{History}
use Rattle.acct_book.specs.Row.{RowFacts}
use Rattle.acct_book.specs.Content.{key_of}
use Rattle.acct_book.specs.Stands.{Stands}
use Rattle.acct_sql_tables.specs.Tables.{account, voucher, session, session_plan}
use Rattle.acct_sql_tables.specs.Columns.{session_columns, session_plan_columns, topup_columns}
use Rattle.acct_sql_tables.specs.Columns.{columns}
use Rattle.acct_sql_tables.specs.Content.{is_session, is_account, is_voucher, content_in_tables}
use Rattle.acct_sql_tables.specs.Make.{KeepsPlans}

-- the columns are these values, from the first on
abbrev pub AreColumns : Row → (ℕ → Value) → Type 0
AreColumns [] at = Unit {0}
AreColumns (value ∷ values) at = (at 0 ≡ value) × AreColumns values (λ i. at (suc i))

-- a row of the table `session` has exactly the columns of this session, and a row of the table
-- `session_plan` the class of its plan, and no other row of these tables has its key
pub record KeepsSession (facts : RowFacts) (db : Trees) : Type 0 where
  pub row : Row
  pub there : Has (db session.tree) row
  pub says : AreColumns (session_columns facts) (columns row)
  pub alone : (other : Row) → Has (db session.tree) other
      → is_session (key_of facts) other ≡ true → other ≡ row
  pub plan : Row
  pub plan_there : Has (db session_plan.tree) plan
  pub plan_says : AreColumns (session_plan_columns facts) (columns plan)
  pub plan_alone : (other : Row) → Has (db session_plan.tree) other
      → is_session (key_of facts) other ≡ true → other ≡ plan

-- a row of the table `voucher` has exactly the columns of this top-up, and no other row its number
pub record KeepsTopUp (facts : TopUpFacts) (db : Trees) : Type 0 where
  pub row : Row
  pub there : Has (db voucher.tree) row
  pub says : AreColumns (topup_columns facts) (columns row)
  pub alone : (other : Row) → Has (db voucher.tree) other
      → is_voucher facts.voucher other ≡ true → other ≡ row

-- a row of the table `account` has exactly this name and balance, and no other row the name
pub record KeepsBalance (name : List ℕ) (balance : ℤ) (db : Trees) : Type 0 where
  pub row : Row
  pub there : Has (db account.tree) row
  pub says : AreColumns (Blob name ∷ Int balance ∷ []) (columns row)
  pub alone : (other : Row) → Has (db account.tree) other → is_account name other ≡ true
      → other ≡ row

-- If tables keep these plans, and their content stands for a history by those, then both are one
-- set of plans: each class has the same plan by both.
abbrev pub KeptAreInForce : Type 0
KeptAreInForce = (kept plans : List Plan) (db : Trees) (history : History) → plans_fault kept ≡ None
    → KeepsPlans kept db → Stands plans (content_in_tables db) history
    → (class : List ℕ) → plan_for kept class ≡ plan_for plans class
