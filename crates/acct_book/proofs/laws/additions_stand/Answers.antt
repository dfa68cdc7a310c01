use Rattle.acct_book.proofs.Additions.{additions_stand}
use Rattle.acct_book.proofs.laws.additions_stand.Goals as goal

pub returns : goal.returns
returns c = additions_stand
