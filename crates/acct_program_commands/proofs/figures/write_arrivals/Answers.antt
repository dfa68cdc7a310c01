use Rattle.std.proofs.KnownBytes.{Appends-trans}
use Rattle.acct_program_commands.proofs.figures.write_arrivals.Goals as goal

pub returns : goal.returns
returns g c =
    let w = g.W.Write.contents in
    Appends-trans (w c.args.output.now) (w c.write_metric-4.new.output) (w c.write_metric-5.new.output) _ _
    (Appends-trans (w c.args.output.now) (w c.write_metric-3.new.output) (w c.write_metric-4.new.output) _ _
    (Appends-trans (w c.args.output.now) (w c.write_metric-2.new.output) (w c.write_metric-3.new.output) _ _
    (Appends-trans (w c.args.output.now) (w c.write_metric.new.output) (w c.write_metric-2.new.output) _ _
    c.in_ok-write_metric.ensures c.in_ok-write_metric-2.ensures) c.in_ok-write_metric-3.ensures) c.in_ok-write_metric-4.ensures) c.in_ok-write_metric-5.ensures
