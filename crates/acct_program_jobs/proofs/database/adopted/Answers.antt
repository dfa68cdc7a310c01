use Rattle.acct_program_jobs.proofs.Ended.{however_it_ended}
use Rattle.acct_program_jobs.proofs.database.adopted.Goals as goal

pub returns-clause-adopted : goal.returns-clause-adopted
returns-clause-adopted g c = c.taken.ensures.adopted _ c.in_ok-connection.ensures.found
    c.in_ok-connection.ensures.guarded

pub returns-clause-refused : goal.returns-clause-refused
returns-clause-refused g c = c.taken.ensures.refused _ c.in_ok-connection.ensures.found

pub returns-clause-seen : goal.returns-clause-seen
returns-clause-seen g c = however_it_ended _ c.in-Ok.ensures.seen c.taken.result
