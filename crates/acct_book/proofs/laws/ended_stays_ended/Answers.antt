use Rattle.acct_book.proofs.Ends.{ended_stays}
use Rattle.acct_book.proofs.laws.ended_stays_ended.Goals as goal

pub returns : goal.returns
returns c = ended_stays
