use Rattle.std.proofs.Common.{inr}
use Rattle.acct_program_jobs.proofs.command.exported.Goals as goal

pub returns-in-Ok-clause-exported : goal.returns-in-Ok-clause-exported
returns-in-Ok-clause-exported g c = record {
  first = c.in_ok-book.book;
  adopted = c.in_ok-book.ensures.adopted;
  did = c.in-Ok.ensures.exported;
}

pub returns-in-Err-clause-failed : goal.returns-in-Err-clause-failed
returns-in-Err-clause-failed g c = inr (
  record {
    first = c.in_ok-book.book;
    adopted = c.in_ok-book.ensures.adopted;
    did = c.in-Err.ensures.failed.0;
  },
  c.in-Err.ensures.failed.1,
)
