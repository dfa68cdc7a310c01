-- Columns that are written or shown, and that no public contract cites.
use Rattle.std.specs.Prelude.{ℕ, ℤ, pos, List, [], ◌∷◌}
use Rattle.sqlite.specs.declared.types.Value.{Value}
use Rattle.sqlite.specs.declared.types.Value.TheVariants.{Int, Blob}
use Rattle.sqlite.specs.Order.{Row}
use Rattle.sqlite_value.specs.Order.{bytes}
use Rattle.acct_model.specs.declared.plan.Plan.{Plan}
use Rattle.acct_book.specs.declared.key.Key.{Key}
use Rattle.acct_sql_tables.specs.Columns.{int_in}
use Rattle.acct_sql_tables.specs.Make.{mode_of}

-- the key of a session by its columns
abbrev pub key_in_columns : (ℕ → Value) → Key
key_in_columns at = record { client = bytes (at 0); session = bytes (at 1) }

-- an account and its balance by their columns
abbrev pub account_in_columns : (ℕ → Value) → List ℕ × ℤ
account_in_columns at = (bytes (at 0), int_in (at 1))

-- the columns that are written for a plan: class, block, unit
abbrev pub plan_columns : Plan → Row
plan_columns plan = Blob plan.class ∷ Int (pos plan.block) ∷ Int (pos plan.unit) ∷ []

-- the columns that are written for what it counts: class, mode
abbrev pub count_columns : Plan → Row
count_columns plan = Blob plan.class ∷ Int (pos (mode_of plan.count)) ∷ []
