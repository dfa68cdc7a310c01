use Rattle.acct_book_forward.proofs.CarriedOn.{moves_nothing}
use Rattle.acct_book_forward.proofs.laws.carrying_moves_nothing.Goals as goal

pub returns : goal.returns
returns c = moves_nothing
