use Rattle.acct_service.proofs.Ages.{none_too_old}
use Rattle.acct_service.proofs.laws.old_reports_are_dropped.Goals as goal

pub returns : goal.returns
returns c = none_too_old
