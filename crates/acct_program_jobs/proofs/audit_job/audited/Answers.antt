use Rattle.acct_program_jobs.proofs.audit_job.audited.Goals as goal

pub returns-clause-audits : goal.returns-clause-audits
returns-clause-audits g c = rw c.into_connection.ensures c.run_audit-ended.ensures.audits
