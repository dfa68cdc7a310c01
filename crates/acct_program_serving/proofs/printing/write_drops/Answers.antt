use Rattle.acct_wire.specs.Reasons.{all_reasons}
use Rattle.acct_program_serving.proofs.printing.write_drops.Goals as goal

pub returns : goal.returns
unfolding all_reasons
returns g c = c.write_reasons.ensures
