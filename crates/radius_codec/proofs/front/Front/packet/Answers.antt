use Rattle.std.proofs.Common.{arith}
use Rattle.std.proofs.lemmas.Grind.{common_steps}
use Rattle.radius_codec.proofs.front.Front.packet.Goals as goal

pub returns-in_err-attributes-clause-none : goal.returns-in_err-attributes-clause-none
returns-in_err-attributes-clause-none c = grind (arith, common_steps)
