use Rattle.std.proofs.Common.{None}
use Rattle.acct_program_jobs.proofs.command.do_book_job.Goals as goal

pub returns-in-Init-clause-does : goal.returns-in-Init-clause-does
returns-in-Init-clause-does g c = rw (c.in-Init.is, ← c.new.ensures) c.make.ensures.does

pub returns-in-Serve-clause-does : goal.returns-in-Serve-clause-does
returns-in-Serve-clause-does g c = rw c.in-Serve.is (c.serve_files.ensures.does None)

pub returns-in-Import-clause-does : goal.returns-in-Import-clause-does
returns-in-Import-clause-does g c = rw c.in-Import.is (
  c.read_clock.result.moment,
  c.read_clock.ensures,
  rw c.by-import.ensures at c.work_on.ensures.does,
)

pub returns-in-Export-clause-does : goal.returns-in-Export-clause-does
returns-in-Export-clause-does g c = rw c.in-Export.is c.export.ensures.does

pub returns-in-Migrate-clause-does : goal.returns-in-Migrate-clause-does
returns-in-Migrate-clause-does g c = rw c.in-Migrate.is c.make-in-Migrate.ensures.does

pub returns-in-AddPlans-clause-does : goal.returns-in-AddPlans-clause-does
returns-in-AddPlans-clause-does g c = rw c.in-AddPlans.is c.make-in-AddPlans.ensures.does

pub returns-in-ListPlans-clause-does : goal.returns-in-ListPlans-clause-does
returns-in-ListPlans-clause-does g c = rw c.in-ListPlans.is c.list_plans.ensures.does

pub returns-in-Forward-clause-does : goal.returns-in-Forward-clause-does
returns-in-Forward-clause-does g c = rw c.in-Forward.is (
  c.read_clock-clock.result.moment,
  c.read_clock-clock.result.written_at,
  c.read_clock-clock.ensures,
  rw c.by-forward.ensures at c.work_on-in-Forward.ensures.does,
)
