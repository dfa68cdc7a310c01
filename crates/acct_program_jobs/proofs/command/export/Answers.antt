use Rattle.std.proofs.Common.{inl, refl}
use Rattle.acct_program_jobs.proofs.command.export.Goals as goal

pub returns-in-Ok-exported-clause-does : goal.returns-in-Ok-exported-clause-does
returns-in-Ok-exported-clause-does g c = inl (record {
  config = c.in-Ok.config;
  read = c.in-Ok.ensures;
  done = refl;
  last = c.in-Ok-exported.connection;
  open_is = refl;
  worked = c.in-Ok-exported.ensures.exported;
})
