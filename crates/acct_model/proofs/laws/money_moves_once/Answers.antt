use Rattle.acct_model.proofs.Money.{moves_once}
use Rattle.acct_model.proofs.laws.money_moves_once.Goals as goal

pub returns : goal.returns
returns c = moves_once
