use Rattle.std.proofs.Common.{rules}
use Rattle.acct_sql.proofs.TiedLemmas.{tied}
use Rattle.acct_sql.proofs.sql_book.SqlBook.adopt.Goals as goal

pub returns-in-Ok-clause-tables : goal.returns-in-Ok-clause-tables
returns-in-Ok-clause-tables g c = tied g.S.Store _

-- Each search is kept short: it finds these, and gives up soon on a body that breaks one.
pub returns-in-Ok-clause-adopted : goal.returns-in-Ok-clause-adopted
returns-in-Ok-clause-adopted g c = search rules fits 100

pub returns-in-Ok-clause-number : goal.returns-in-Ok-clause-number
returns-in-Ok-clause-number g c = search rules fits 500

pub returns-in-Ok-clause-plans : goal.returns-in-Ok-clause-plans
returns-in-Ok-clause-plans g c = search rules fits 500
