use Rattle.std.proofs.Common.{inl, refl}
use Rattle.acct_program_jobs.proofs.plans_job.list_plans.Goals as goal

pub returns-in-Ok-clause-does : goal.returns-in-Ok-clause-does
returns-in-Ok-clause-does g c = inl (c.in-Ok.connection, refl, refl, c.in-Ok.ensures.listed)
