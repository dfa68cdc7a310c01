use Rattle.acct_sql.proofs.TiedLemmas.{tied}
use Rattle.acct_sql.proofs.sql_book.SqlBook.create.Goals as goal

pub returns-in-Ok-clause-tables : goal.returns-in-Ok-clause-tables
returns-in-Ok-clause-tables g c = tied g.S.Store _
