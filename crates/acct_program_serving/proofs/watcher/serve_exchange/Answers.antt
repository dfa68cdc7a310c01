use Rattle.std.proofs.KnownBytes.{Appends-trans}
use Rattle.acct_program_serving.proofs.watcher.serve_exchange.Goals as goal

pub returns-in-Ok-write_counts : goal.returns-in-Ok-write_counts
returns-in-Ok-write_counts g c =
    let w = g.W.Write.contents in
    let ran = c.serve_in_slices-until.ensures in (
      record {
        turns_made = ran.turns;
        shut = ran.shut;
        stuck = ran.stuck;
        open_is = ran.open;
        faults = ran.faults;
        run = ran.serves;
      },
      Appends-trans (w c.args.output.now) (w c.write_serving.new.output)
          (w c.write_counts.new.output) _ _ c.in-Ok.ensures c.in-Ok-write_counts.ensures,
    )
