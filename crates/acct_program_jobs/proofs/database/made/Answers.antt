use Rattle.acct_program_jobs.proofs.Ended.{however_it_ended}
use Rattle.acct_program_jobs.proofs.database.made.Goals as goal

pub returns-clause-made : goal.returns-clause-made
returns-clause-made g c = c.made_of.ensures.made _ c.in_ok-connection.ensures.found

pub returns-clause-refused : goal.returns-clause-refused
returns-clause-refused g c = c.made_of.ensures.refused _ c.in_ok-connection.ensures.found

pub returns-clause-seen : goal.returns-clause-seen
returns-clause-seen g c =
    however_it_ended _ (rw c.makes_new-is_new.ensures at c.in-Ok.ensures.seen) c.made_of.result
