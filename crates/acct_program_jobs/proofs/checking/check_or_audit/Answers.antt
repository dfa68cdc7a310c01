use Rattle.acct_program_jobs.proofs.checking.check_or_audit.Goals as goal

pub returns-in-Some-clause-does : goal.returns-in-Some-clause-does
returns-in-Some-clause-does g c = rw (c.if-not-checking.false, c.in-Some.is)
    (rw c.files.ensures.config at c.audit_book.ensures.does)
