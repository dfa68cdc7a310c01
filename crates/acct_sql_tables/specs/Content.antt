-- The content of a book, as its tables hold it.
use Rattle.std.specs.Prelude.{ℕ, ◌+◌, ◌^◌, ◌&&◌, Bool, List, [], Option, Some, None, find}
use Rattle.std.specs.Prelude.{option_map}
use Rattle.std.specs.Option.{option_or, option_and_then}
use Rattle.sqlite.specs.Order.{Row, column}
use Rattle.sqlite.specs.Tree.{Trees}
use Rattle.sqlite_value.specs.Order.{bytes}
use Rattle.acct_model.specs.declared.plan.Plan.{Plan}
use Rattle.acct_model.specs.Plans.{default_class}
use Rattle.acct_book.specs.declared.key.Key.{Key}
use Rattle.acct_book.specs.Row.{RowFacts}
use Rattle.acct_book.specs.Content.{Content}
use Rattle.acct_sql_tables.specs.Tables.{account, voucher, session, session_plan, price_plan}
use Rattle.acct_sql_tables.specs.Tables.{plan_count}
use Rattle.acct_sql_tables.specs.Columns.{is_blob, is_text, int_in, session_in_columns}
use Rattle.acct_sql_tables.specs.Columns.{topup_in_columns}
use Rattle.acct_sql_tables.specs.Columns.{columns, mode_in, plan_in_columns}

-- the row is the session's, the account's, the voucher's, the plan's
abbrev pub is_session : Key → Row → Bool
is_session key row = is_text key.client (column row 1) && is_blob key.session (column row 2)

abbrev pub is_account : List ℕ → Row → Bool
is_account name row = is_blob name (column row 1)

abbrev pub is_voucher : List ℕ → Row → Bool
is_voucher number row = is_text number (column row 1)

abbrev pub is_plan : List ℕ → Row → Bool
is_plan class row = is_blob class (column row 1)

-- the plan of exactly this class, by rows of the tables `price_plan` and `plan_count`; none if
-- either has no row for it
unfoldable pub plan_in_rows : List Row → List Row → List ℕ → Option Plan
plan_in_rows prices counts class =
    option_and_then (λ price. option_map (plan_in_columns class (columns price))
    (option_and_then (λ row. mode_in (column row 2)) (find (is_plan class) counts)))
    (find (is_plan class) prices)

-- the plan of each class by these rows: the one that has the class, else the plan `default`
abbrev pub listed_in_rows : List Row → List Row → List ℕ → Option Plan
listed_in_rows prices counts class =
    option_or (plan_in_rows prices counts class) (plan_in_rows prices counts default_class)

abbrev pub listed_in_tables : Trees → List ℕ → Option Plan
listed_in_tables db class = listed_in_rows (db price_plan.tree) (db plan_count.tree) class

-- the class of each session's plan, by the table `session_plan`
abbrev pub plans_in_tables : Trees → Key → Option (List ℕ)
plans_in_tables db key = option_map (λ row. bytes (column row 3))
    (find (is_session key) (db session_plan.tree))

-- the session, without its plan
abbrev pub without_plan : RowFacts → RowFacts
without_plan row = record row { plan = [] }

-- what the tables `session`, `account` and `voucher` hold, column by column, without any plans
abbrev pub content_without_plans : Trees → Content
content_without_plans db = record {
  rows = λ key. option_map (λ row. session_in_columns (columns row))
      (find (is_session key) (db session.tree));
  balances = λ name. option_map (λ row. int_in (column row 2))
      (find (is_account name) (db account.tree));
  topups = λ number. option_map (λ row. topup_in_columns (columns row))
      (find (is_voucher number) (db voucher.tree));
  plans = None;
}

-- the session with its plan. One whose plan isn't kept counts as one of 2^64 and more seconds,
-- which no row has. So each call that would show it returns `Unavailable`.
abbrev pub with_plan : Option (List ℕ) → RowFacts → RowFacts
with_plan None row = record row { seconds = 2 ^ 64 + row.seconds }
with_plan (Some class) row = record row { plan = class }

-- the content with the plans of its sessions
abbrev pub with_plans : (Key → Option (List ℕ)) → Content → Content
with_plans plans content = record {
  rows = λ key. option_map (with_plan (plans key)) (content.rows key);
  balances = content.balances;
  topups = content.topups;
  plans = content.plans;
}

-- the content of a book that keeps this list of plans
abbrev pub with_list : (List ℕ → Option Plan) → Content → Content
with_list listed content = record content { plans = Some listed }

-- what the tables of a book hold, column by column
abbrev pub content_in_tables : Trees → Content
content_in_tables db =
    with_list (listed_in_tables db) (with_plans (plans_in_tables db) (content_without_plans db))
