use Rattle.std.proofs.Common.{◌≡◌, take, map}
use Rattle.acct_sql_tables.specs.inner.Listed.{index_said}
use Rattle.acct_sql_tables.proofs.book_schema.are_indexes.Given as goal

abbrev pub invariant-loop-at : goal.invariant-loop-at
invariant-loop-at l = take l.at l.indexes ≡ map index_said (take l.at l.texts)
