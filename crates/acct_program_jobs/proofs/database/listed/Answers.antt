use Rattle.acct_program_jobs.proofs.Ended.{however_it_ended}
use Rattle.acct_program_jobs.proofs.database.listed.Goals as goal

pub returns-clause-kept : goal.returns-clause-kept
returns-clause-kept g c = c.kept_in.ensures.kept _ c.in_ok-connection.ensures.found
    c.in_ok-connection.ensures.guarded

pub returns-clause-refused : goal.returns-clause-refused
returns-clause-refused g c = c.kept_in.ensures.refused _ c.in_ok-connection.ensures.found

pub returns-clause-seen : goal.returns-clause-seen
returns-clause-seen g c = however_it_ended _ c.in-Ok.ensures.seen c.kept_in.result
