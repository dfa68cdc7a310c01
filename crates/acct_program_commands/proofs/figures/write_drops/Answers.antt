use Rattle.std.proofs.KnownBytes.{Appends-trans}
use Rattle.acct_wire.specs.Reasons.{all_reasons}
use Rattle.acct_program_commands.proofs.figures.write_drops.Goals as goal

pub returns : goal.returns
unfolding all_reasons
returns g c =
    let w = g.W.Write.contents in
    Appends-trans (w c.args.output.now) (w c.write_head.new.output)
    (w c.write_reasons.new.output) _ _ c.in_ok-write_head.ensures c.in_ok-write_reasons.ensures
