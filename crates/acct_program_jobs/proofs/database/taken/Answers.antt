use Rattle.std.proofs.Common.{ap, ◌∙◌}
use Rattle.acct_program_commands.specs.declared.fault.Fault.TheVariants as fault
use Rattle.acct_program_jobs.proofs.Found.{was_held, was_clean, reads_held, holds_still}
use Rattle.acct_program_jobs.proofs.database.taken.Goals as goal

pub returns-in-Ok-clause-adopted : goal.returns-in-Ok-clause-adopted
returns-in-Ok-clause-adopted g c image found guarded clean =
    let settled = c.in-Ok.ensures.adopted clean in
    let looks = c.in-Ok.ensures.looks in
    record {
      settled = settled;
      held = reads_held image c.args.connection found c.in-Ok.book looks clean settled.0.1;
      number = c.in-Ok.ensures.number clean;
      plans_kept = c.in-Ok.ensures.plans clean;
      guarded = record {
        shielded = λ again. looks.survives.shield
            (guarded.shielded (was_clean image c.args.connection found c.in-Ok.book looks again));
        unlimited = looks.survives.limit ∙ guarded.unlimited;
      };
    }

pub returns-in-Err-clause-refused : goal.returns-in-Err-clause-refused
returns-in-Err-clause-refused g c image found =
    let first = c.args.connection in
    let last = c.in-Err.connection in
    let looks = c.in-Err.ensures.looks_err in
    record {
      still = holds_still image first found last looks g.met.D.Disk.seen_may_stay;
      error = c.in-Err.error;
      telling = ap fault.Store c.store_fault.ensures;
      why = λ clean. (
        _,
        was_held image first found (was_clean image first found last looks clean),
        c.in-Err.ensures.refused clean,
      );
    }
