use Rattle.std.proofs.KnownBytes.{Appends-trans}
use Rattle.acct_program_commands.proofs.figures.write_state.Goals as goal

pub returns : goal.returns
returns g c =
    let w = g.W.Write.contents in
    Appends-trans (w c.args.output.now) (w c.write_known-2.new.output) (w c.write_build.new.output) _ _
    (Appends-trans (w c.args.output.now) (w c.write_known.new.output) (w c.write_known-2.new.output) _ _
    (Appends-trans (w c.args.output.now) (w c.write_balances.new.output) (w c.write_known.new.output) _ _
    (Appends-trans (w c.args.output.now) (w c.write_metric-2.new.output) (w c.write_balances.new.output) _ _
    (Appends-trans (w c.args.output.now) (w c.write_metric.new.output) (w c.write_metric-2.new.output) _ _
    (rw c.value_of.ensures at c.in_ok-write_metric.ensures)
    (rw c.value_of-2.ensures at c.in_ok-write_metric-2.ensures)) c.in_ok-write_balances.ensures) c.in_ok-write_known.ensures) c.in_ok-write_known-2.ensures) c.in_ok-write_build.ensures
