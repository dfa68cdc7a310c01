use Rattle.acct_service.proofs.Stops.{stops_lived}
use Rattle.acct_service.proofs.laws.stops_are_lived.Goals as goal

pub returns : goal.returns
returns g c = stops_lived g.B.Book
