use Rattle.acct_desk.proofs.LoginLaws.{paid_costs_balance}
use Rattle.acct_desk.proofs.laws.paid_octets_cost_the_balance.Goals as goal

pub returns : goal.returns
returns c = paid_costs_balance
