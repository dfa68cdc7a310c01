use Rattle.std.proofs.Common.{inr}
use Rattle.acct_program_jobs.proofs.plans_job.listed_from.Goals as goal

pub returns-in-Ok-clause-listed : goal.returns-in-Ok-clause-listed
returns-in-Ok-clause-listed g c = record {
  plans = c.in_ok-plans.plans;
  faultless = c.have_no_fault.ensures;
  kept = c.in_ok-plans.ensures.kept;
  told = c.in-Ok.ensures.text;
}

pub returns-clause-failed : goal.returns-clause-failed
returns-clause-failed g c = inr (inr (
  c.in-Err.ensures.why,
  (c.in_ok-plans.plans, c.in_ok-plans.ensures.kept),
))
