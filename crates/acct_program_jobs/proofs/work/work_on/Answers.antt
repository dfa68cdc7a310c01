use Rattle.std.proofs.Common.{◌≢◌}
use Rattle.acct_program.specs.declared.status.Status.TheVariants as Status
use Rattle.acct_program_jobs.proofs.Ended.{closes_if, fails_if, fails_by, status_if, with_config, ended_so}
use Rattle.acct_program_jobs.proofs.work.work_on.Goals as goal

pub returns-clause-does : goal.returns-clause-does
returns-clause-does g c =
    let out = c.with_book-2.ensures in
    rw out.output (ended_so _ _ c.finished.result _ _ out.ok out.err
    (with_config _ _ c.in-Ok.config c.in-Ok.ensures.read c.finished.result
    (closes_if _ _ _ _ _ (record {
      first = c.in-Ok-adopted.book;
      adopted = c.in-Ok-adopted.ensures.adopted;
      did = rw c.into_connection.ensures c.over-ended.ensures.did;
    }) _ c.finished.ensures.closed))
    (fails_by _ _ _ c.in-Ok.config c.in-Ok.ensures.read c.finished.result
    (fails_if _ _ _ _ _ (record {
      first = c.in-Ok-adopted.book;
      adopted = c.in-Ok-adopted.ensures.adopted;
      did = rw c.into_connection.ensures c.over-ended.ensures.did;
    }) _ c.finished.ensures.failed)))

pub with_book-requires-2 : goal.with_book-requires-2
with_book-requires-2 g c = status_if (λ status. status ≢ Status.BadCommandLine) _ _
    c.over-ended.ensures.other _ c.finished.ensures.closed
