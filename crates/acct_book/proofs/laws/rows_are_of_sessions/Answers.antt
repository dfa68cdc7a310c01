use Rattle.acct_book.proofs.Ends.{rows_of_sessions}
use Rattle.acct_book.proofs.laws.rows_are_of_sessions.Goals as goal

pub returns : goal.returns
returns c = rows_of_sessions
