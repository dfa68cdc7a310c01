use Rattle.acct_service.proofs.Visits.{attends_join}
use Rattle.acct_service.proofs.laws.turns_join.Goals as goal

pub returns : goal.returns
returns g c plans = attends_join g.B.Book plans
