use Rattle.std.proofs.Common.{◌≡◌, replicate, refl}
use Rattle.acct_wire.specs.Reasons.{count_for}
use Rattle.acct_wire.specs.declared.reason.Reason.{Reason}
use Rattle.acct_wire.specs.declared.reason.Reason.TheVariants.{UnknownClient}
use Rattle.acct_wire.specs.declared.reason.TheConstants.Reason.{COUNT}
use Rattle.acct_service.proofs.server.Served.none.Goals as goal

nothing : (reason : Reason) → count_for (replicate COUNT 0) reason ≡ 0
nothing UnknownClient = refl
nothing other = refl

pub returns-clause-counts : goal.returns-clause-counts
returns-clause-counts c =
    record { events = refl; replies = refl; dropped = nothing; mute = refl }
