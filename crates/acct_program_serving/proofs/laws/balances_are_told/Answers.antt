use Rattle.acct_program_serving.proofs.Balances.{balances_told}
use Rattle.acct_program_serving.proofs.laws.balances_are_told.Goals as goal

pub returns : goal.returns
returns g c = balances_told g.B.Book c.slices_stand.ensures g.R.ReplacesFiles.was_put
