use Rattle.acct_book.proofs.Fixed.{lists-fixed}
use Rattle.acct_book.proofs.laws.lists_are_fixed.Goals as goal

pub returns : goal.returns
returns c = lists-fixed
