use Rattle.acct_sql.proofs.TiedLemmas.{tied}
use Rattle.acct_sql.proofs.laws.books_are_their_tables.Goals as goal

pub returns : goal.returns
returns g c = tied g.S.Store _
