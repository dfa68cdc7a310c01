use Rattle.acct_desk.proofs.AskLemmas.{one_ask}
use Rattle.acct_desk.proofs.laws.one_thing_is_asked.Goals as goal

pub returns : goal.returns
returns c = one_ask
