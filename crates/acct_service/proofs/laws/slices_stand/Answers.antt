use Rattle.acct_service.proofs.Sliced.{slices_stand}
use Rattle.acct_service.proofs.laws.slices_stand.Goals as goal

pub returns : goal.returns
returns g c = slices_stand g.B.Book g.met.B.Book.open_sound
