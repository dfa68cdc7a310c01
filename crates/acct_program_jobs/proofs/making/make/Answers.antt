use Rattle.acct_program_jobs.proofs.Ended.{ended_so}
use Rattle.acct_program_jobs.proofs.making.make.Goals as goal

pub returns-clause-does : goal.returns-clause-does
returns-clause-does g c =
    let out = c.with_book.ensures in
    rw out.output (ended_so _ _ c.made_and_closed-ending.result _ _ out.ok out.err
    c.made_and_closed-ending.ensures.made c.made_and_closed-ending.ensures.failed)
