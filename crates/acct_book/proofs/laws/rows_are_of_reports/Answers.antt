use Rattle.acct_book.proofs.RowLaws.{rows_are}
use Rattle.acct_book.proofs.laws.rows_are_of_reports.Goals as goal

pub returns : goal.returns
returns c = rows_are
