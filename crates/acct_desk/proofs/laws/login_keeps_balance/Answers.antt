use Rattle.acct_desk.proofs.LoginLaws.{login_keeps_balance}
use Rattle.acct_desk.proofs.laws.login_keeps_balance.Goals as goal

pub returns : goal.returns
returns c = login_keeps_balance
