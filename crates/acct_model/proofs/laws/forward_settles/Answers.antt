use Rattle.acct_model.proofs.Courses.{forward_settles}
use Rattle.acct_model.proofs.laws.forward_settles.Goals as goal

pub returns : goal.returns
returns c = forward_settles
