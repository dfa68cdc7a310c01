use Rattle.acct_program_jobs.proofs.checking.checked_from.Goals as goal

pub returns-clause-checked : goal.returns-clause-checked
returns-clause-checked g c = (
  c.in_ok-config.config,
  c.in_ok-config.ensures.read,
  record {
    first = c.in_ok-book.book;
    adopted = c.in_ok-book.ensures.adopted;
    did = c.checked.ensures.checks;
  },
)
