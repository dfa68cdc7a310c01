use Rattle.acct_program_jobs.proofs.checking.checked.Goals as goal

pub returns-clause-checks : goal.returns-clause-checks
returns-clause-checks g c = rw c.into_connection.ensures c.check_over-ended.ensures.checks
