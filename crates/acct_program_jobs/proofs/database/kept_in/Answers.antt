use Rattle.std.proofs.Common.{ap, ◌∙◌}
use Rattle.acct_program_commands.specs.declared.fault.Fault.TheVariants as fault
use Rattle.acct_program_jobs.proofs.Found.{was_held, was_clean, reads_held, holds_still}
use Rattle.acct_program_jobs.proofs.database.kept_in.Goals as goal

pub returns-in-Ok-clause-kept : goal.returns-in-Ok-clause-kept
returns-in-Ok-clause-kept g c image found guarded clean =
    let first = c.args.connection in
    let last = c.kept_plans.new.conn in
    let looks = c.in-Ok.ensures.looks.looks in
    let is_open = c.in-Ok.ensures.looks.stays_open clean in
    let kept = c.in-Ok.ensures.kept clean in
    record {
      settled = ((clean, is_open), looks.idle.settled clean is_open);
      held = reads_held image first found last looks clean is_open;
      number = kept.number;
      plans_kept = kept.plans_kept;
      guarded = record {
        shielded = λ again. looks.survives.shield
            (guarded.shielded (was_clean image first found last looks again));
        unlimited = looks.survives.limit ∙ guarded.unlimited;
      };
    }

pub returns-in-Err-clause-refused : goal.returns-in-Err-clause-refused
returns-in-Err-clause-refused g c image found =
    let first = c.args.connection in
    let last = c.kept_plans.new.conn in
    let looks = c.in-Err.ensures.looks.looks in
    record {
      still = holds_still image first found last looks g.met.D.Disk.seen_may_stay;
      error = c.in-Err.error;
      telling = ap fault.Store c.store_fault.ensures;
      why = λ clean. (
        _,
        was_held image first found (was_clean image first found last looks clean),
        c.in-Err.ensures.refused clean,
      );
    }
