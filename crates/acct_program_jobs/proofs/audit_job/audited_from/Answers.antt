use Rattle.acct_program_jobs.proofs.audit_job.audited_from.Goals as goal

pub returns-in-Ok-adopted-clause-audited : goal.returns-in-Ok-adopted-clause-audited
returns-in-Ok-adopted-clause-audited g c = (
  c.in-Ok.config,
  c.in-Ok.ensures.read,
  record {
    first = c.in-Ok-adopted.book;
    adopted = c.in-Ok-adopted.ensures.adopted;
    did = c.audited.ensures.audits;
  },
)
