use Rattle.std.proofs.Common.{refl}
use Rattle.acct_program_jobs.proofs.database.close.Goals as goal

pub returns-in-Err-clause-kept : goal.returns-in-Err-clause-kept
returns-in-Err-clause-kept g c = (refl, c.in-Err.ensures.err.0)
