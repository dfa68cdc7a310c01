use Rattle.acct_sql.proofs.NextStartLemmas.{takes_next}
use Rattle.acct_sql.proofs.laws.next_start_takes.Goals as goal

pub returns : goal.returns
returns g c = λ plans. takes_next plans _ _
