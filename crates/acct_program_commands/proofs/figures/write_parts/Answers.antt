use Rattle.std.proofs.KnownBytes.{Appends-trans}
use Rattle.acct_program_commands.proofs.figures.write_parts.Goals as goal

pub returns : goal.returns
returns g c =
    let w = g.W.Write.contents in
    Appends-trans (w c.args.output.now) (w c.write_arrivals.new.output) (w c.write_state.new.output) _ _
    (Appends-trans (w c.args.output.now) (w c.write_moments.new.output) (w c.write_arrivals.new.output) _ _
    (Appends-trans (w c.args.output.now) (w c.write_drops.new.output) (w c.write_moments.new.output) _ _
    (Appends-trans (w c.args.output.now) (w c.write_tally.new.output) (w c.write_drops.new.output) _ _
    c.in_ok-write_tally.ensures c.in_ok-write_drops.ensures) c.in_ok-write_moments.ensures) c.in_ok-write_arrivals.ensures) c.in_ok-write_state.ensures
