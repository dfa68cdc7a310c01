use Rattle.std.proofs.Common.{◌≡◌, ◌∙◌, ap, sym, inl, inr}
use Rattle.sqlite.specs.Files.{file_state}
use Rattle.acct_sql_tables.specs.declared.sql_book_error.SqlBookError.TheVariants as error
use Rattle.acct_program_commands.specs.declared.fault.Fault.TheVariants as fault
use Rattle.acct_program_commands.specs.declared.fault.StoreFault.TheVariants as store
use Rattle.acct_program_jobs.specs.Faults.{store_fault_of}
use Rattle.acct_program_jobs.proofs.Found.{held_before, reads_as_before, leaves_old_or_new}
use Rattle.acct_program_jobs.proofs.database.made_of.Goals as goal

pub returns-in-Ok-clause-made : goal.returns-in-Ok-clause-made
returns-in-Ok-clause-made g c = rw (c.in-New.is, c.into_connection.ensures)
    (λ image found clean.
    let first = c.args.connection in
    let made = c.in-Ok.ensures.made clean in
    record {
      settled = made.0;
      fresh = made.1;
      held = (file_state first).now;
      was_held = held_before image first found c.in-Ok.book _ c.in-Ok.ensures.crash clean;
      was_bare = λ other. c.in-Ok.ensures.not_a_book.1 other;
    })

pub returns-in-Err-clause-refused : goal.returns-in-Err-clause-refused
returns-in-Err-clause-refused g c = rw c.in-New.is (λ image found.
    let first = c.args.connection in
    let it = c.in-Err.ensures in
    let tells : (why : _) → c.in-Err.error ≡ why
    → fault.Store c.store_fault.result ≡ fault.Store (store_fault_of why) =
    λ why is. ap fault.Store (c.store_fault.ensures ∙ ap store_fault_of is) in
    record {
      reads = reads_as_before image first found c.in-Err.connection _ it.crash_err it.same;
      leaves = leaves_old_or_new image first found c.in-Err.connection _ it.crash_err g.met.D.Disk.seen_may_stay;
      telling = elim it.other [
        | inl is ↦ inl (tells error.NotABook is)
        | inr is ↦ inr (tells error.Unavailable is)
      ];
      why = λ clean told. elim it.other [
        | inl is ↦ (
          (file_state first).now,
          held_before image first found c.in-Err.connection _ it.crash_err clean,
          it.not_a_book.0 is,
        )
        | inr is ↦ absurd (let other : fault.Store store.Unavailable ≡ fault.Store store.NotABook =
            sym (tells error.Unavailable is) ∙ told in cc)
      ];
    })

pub returns-in-Ok-migrate-clause-made : goal.returns-in-Ok-migrate-clause-made
returns-in-Ok-migrate-clause-made g c = rw (c.in-Migrated.is, c.into_connection-in-Ok-migrate.ensures)
    (λ image found clean.
    let first = c.args.connection in
    let it = c.in-Ok-migrate.ensures in
    let made = it.migrated clean in
    record {
      settled = made.0;
      held = (file_state first).now;
      was_held = held_before image first found c.in-Ok-migrate.book _ it.crash clean;
      was_older = it.older clean;
      migrated = made.1;
    })

pub returns-in-Err-migrate-clause-refused : goal.returns-in-Err-migrate-clause-refused
returns-in-Err-migrate-clause-refused g c = rw c.in-Migrated.is (λ image found.
    let first = c.args.connection in
    let it = c.in-Err-migrate.ensures in
    record {
      reads = reads_as_before image first found c.in-Err-migrate.connection _ it.crash_err it.same;
      leaves = λ clean db may.
          elim (leaves_old_or_new image first found c.in-Err-migrate.connection _ it.crash_err g.met.D.Disk.seen_may_stay
          clean db may) [
            | inl old ↦ inl old
            | inr new ↦ inr (
              (file_state first).now.trees,
              (held_before image first found c.in-Err-migrate.connection _ it.crash_err clean).trees,
              new,
            )
          ];
      error = c.in-Err-migrate.error;
      telling = ap fault.Store c.store_fault-in-Err-migrate.ensures;
      why = λ clean. (
        (file_state first).now,
        held_before image first found c.in-Err-migrate.connection _ it.crash_err clean,
        it.refused clean,
      );
    })

pub returns-in-Ok-add_plans-clause-made : goal.returns-in-Ok-add_plans-clause-made
returns-in-Ok-add_plans-clause-made g c = rw (c.in-Extended.is, c.into_connection-in-Ok-add_plans.ensures)
    (λ image found clean.
    let first = c.args.connection in
    let it = c.in-Ok-add_plans.ensures in
    let made = it.added clean in
    record {
      settled = made.0;
      held = (file_state first).now;
      was_held = held_before image first found c.in-Ok-add_plans.book _ it.crash clean;
      extended = made.1;
      added = made.2;
      counted = λ kept keeps. (it.number clean kept keeps).1;
    })

pub returns-in-Err-add_plans-clause-refused : goal.returns-in-Err-add_plans-clause-refused
returns-in-Err-add_plans-clause-refused g c = rw c.in-Extended.is (λ image found.
    let first = c.args.connection in
    let it = c.in-Err-add_plans.ensures in
    record {
      reads = reads_as_before image first found c.in-Err-add_plans.connection _ it.crash_err it.same;
      leaves = λ clean db may.
          elim (leaves_old_or_new image first found c.in-Err-add_plans.connection _ it.crash_err g.met.D.Disk.seen_may_stay
          clean db may) [
            | inl old ↦ inl old
            | inr new ↦ inr (
              (file_state first).now.trees,
              (held_before image first found c.in-Err-add_plans.connection _ it.crash_err clean).trees,
              new,
            )
          ];
      error = c.in-Err-add_plans.error;
      telling = ap fault.Store c.store_fault-in-Err-add_plans.ensures;
      why = λ clean. (
        (file_state first).now,
        held_before image first found c.in-Err-add_plans.connection _ it.crash_err clean,
        it.refused clean,
      );
    })
