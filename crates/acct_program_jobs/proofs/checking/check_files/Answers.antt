use Rattle.acct_program_jobs.proofs.checking.check_files.Goals as goal

pub returns-in-Some-clause-does : goal.returns-in-Some-clause-does
returns-in-Some-clause-does g c =
    rw c.in-Some.is (rw c.files.ensures.config at c.check_book.ensures.does)
