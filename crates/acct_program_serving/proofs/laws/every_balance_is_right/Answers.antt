use Rattle.acct_program_serving.proofs.Promised.{serves_rightly}
use Rattle.acct_program_serving.proofs.laws.every_balance_is_right.Goals as goal

pub returns : goal.returns
returns g c =
    let promise = c.every_balance_is_right.ensures in
    serves_rightly g.B.Book _ promise.visits promise.begun g.R.ReplacesFiles.was_put _
