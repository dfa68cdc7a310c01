use Rattle.sqlite.specs.Held.{state}
use Rattle.acct_sql.proofs.KnownLemmas.{knows_nothing}
use Rattle.acct_sql.proofs.RememberLemmas.{remembers_none}
use Rattle.acct_sql.proofs.sql_book.SqlBook.over.Goals as goal

pub invariant_of-result : goal.invariant_of-result
invariant_of-result g c = (
  c.requires,
  remembers_none (state g.S.Store c.args.conn) c.new.result c.new.ensures,
  knows_nothing c.nothing.ensures,
)
