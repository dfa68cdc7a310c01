use Rattle.acct_service.proofs.Promised.{balances_right, open_begins}
use Rattle.acct_service.proofs.laws.every_balance_is_right.Goals as goal

pub returns-clause-visits : goal.returns-clause-visits
returns-clause-visits g c = balances_right g.B.Book g.met.B.Book.settled

pub returns-clause-begun : goal.returns-clause-begun
returns-clause-begun g c = open_begins g.B.Book g.met.B.Book.settled
