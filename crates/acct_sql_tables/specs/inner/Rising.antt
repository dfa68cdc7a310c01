-- Ids that rise from row to row, and the tables whose rowids are queried.
use Rattle.std.specs.Prelude.{◌≡◌, ℕ, ℤ, List, [], Option, IfSome, map}
use Rattle.std.specs.Ordering.{int_cmp}
use Rattle.std.specs.declared.cmp.Ordering.TheVariants.{Less}
use Rattle.std.specs.List.{AllByRecursion}
use Rattle.std.specs.List.Sorted.{IsStrictlySortedBy}
use Rattle.sqlite.specs.declared.types.Value.TheVariants.{Int}
use Rattle.sqlite.specs.Store.{Ghosts}
use Rattle.sqlite.specs.Order.{Row, column}
use Rattle.sqlite.specs.Edit.{id_in}
use Rattle.sqlite.specs.Held.{Held, state}
use Rattle.sqlite.specs.Schema.{Schema}
use Rattle.sqlite.specs.State.{HasCleanDisk, IsUnchanged, Shown}
use Rattle.acct_sql_tables.specs.Tables.{book_schema, meta, account, voucher, session, session_plan}
use Rattle.acct_sql_tables.specs.Look.{IsIdle}
use Rattle.acct_sql_tables.specs.inner.Looked.{IsKnown}
use Rattle.acct_sql_tables.specs.declared.statements.TheConstants as texts
use Rattle.acct_sql_tables.specs.declared.rowids.BookTable.{BookTable}
use Rattle.acct_sql_tables.specs.declared.rowids.BookTable.TheVariants.{Meta, Account, Voucher}
use Rattle.acct_sql_tables.specs.declared.rowids.BookTable.TheVariants.{Session}
use Rattle.acct_sql_tables.specs.declared.rowids.BookTable.TheVariants.{SessionPlan}

-- the id that a row begins with
abbrev pub shown_id : Row → ℤ
shown_id row = id_in (column row 0)

-- each row begins with an id, which is above that of the row before
pub record AreRising (rows : List Row) : Type 0 where
  pub ids : AllByRecursion (λ row. column row 0 ≡ Int (shown_id row)) rows
  pub sorted : IsStrictlySortedBy int_cmp (map shown_id rows)

-- it is above the last id, if there was one
abbrev pub IsAbove : Option ℤ → ℤ → Type 0
IsAbove last id = IfSome last (λ before. int_cmp before id ≡ Less)

-- a query of a database that stays as it is showed rows whose ids rise
pub record ShowsRising {S : Type 0} (g : Ghosts S) (sql : List ℕ) (old new : Held S) : Type 0 where
  pub rows : List Row
  pub rising : AreRising rows
  pub before : Held S
  pub same : IsUnchanged (state g old) (state g before)
  pub shown : Shown sql [] (state g before) (state g new) rows

-- ---- the tables

-- the tree of a table
abbrev pub tree_of : BookTable → ℕ
tree_of Meta = meta.tree
tree_of Account = account.tree
tree_of Voucher = voucher.tree
tree_of Session = session.tree
tree_of SessionPlan = session_plan.tree

-- the query for its rowids
abbrev pub rowids_of : BookTable → List ℕ
rowids_of Meta = texts.META_ROWIDS.now
rowids_of Account = texts.ACCOUNT_ROWIDS.now
rowids_of Voucher = texts.VOUCHER_ROWIDS.now
rowids_of Session = texts.SESSION_ROWIDS.now
rowids_of SessionPlan = texts.SESSION_PLAN_ROWIDS.now

-- it is one of these tables: older books have all but the last
abbrev pub HasTable : BookTable → Schema → Type 0
HasTable Meta schema = IsKnown schema
HasTable Account schema = IsKnown schema
HasTable Voucher schema = IsKnown schema
HasTable Session schema = IsKnown schema
HasTable SessionPlan schema = schema ≡ book_schema

-- outside a transaction, over a database that has this table
pub record IsIdleWith {S : Type 0} (g : Ghosts S) (table : BookTable) (conn : Held S) : Type 0 where
  pub idle : IsIdle (state g conn)
  pub has : HasCleanDisk (state g conn) → HasTable table (state g conn).now.schema
