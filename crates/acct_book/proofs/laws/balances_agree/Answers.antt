use Rattle.acct_model.proofs.Agreement.{balances-agree}
use Rattle.acct_book.proofs.laws.balances_agree.Goals as goal

pub returns : goal.returns
returns c = balances-agree
