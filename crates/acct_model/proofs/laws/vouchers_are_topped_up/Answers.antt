use Rattle.acct_model.proofs.Members.{vouchers_listed}
use Rattle.acct_model.proofs.laws.vouchers_are_topped_up.Goals as goal

pub returns : goal.returns
returns c = vouchers_listed
