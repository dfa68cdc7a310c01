use Rattle.std.proofs.Common.{inl, refl}
use Rattle.acct_program_jobs.proofs.Ended.{done_well}
use Rattle.acct_program_jobs.proofs.audit_job.audit_book.Goals as goal

pub returns-in-Ok-clause-other : goal.returns-in-Ok-clause-other
returns-in-Ok-clause-other g c = done_well c.in-Ok.ended c.in-Ok.ensures.done

pub returns-in-Ok-clause-does : goal.returns-in-Ok-clause-does
returns-in-Ok-clause-does g c = inl (record {
  config = c.in-Ok.ensures.audited.0;
  read = c.in-Ok.ensures.audited.1;
  last = c.in-Ok.connection;
  open_is = refl;
  worked = c.in-Ok.ensures.audited.2;
})
