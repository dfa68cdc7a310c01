use Rattle.std.proofs.Common.{inl, inr}
use Rattle.acct_program_serving.specs.Files.{seen_before}
use Rattle.acct_program_jobs.proofs.command.serve_files.Goals as goal

pub returns-in-Ok-clause-does : goal.returns-in-Ok-clause-does
returns-in-Ok-clause-does g c text = inr (
  seen_before c.server_of-server.result.around.names,
  c.server_of-server.ensures.names,
  rw (← c.server_of-server.ensures.serving)
      (rw c.server_of-server.ensures.text at c.work_on.ensures.does),
)

pub returns-in-Err-clause-does : goal.returns-in-Err-clause-does
returns-in-Err-clause-does g c text = inl (record {
  named = c.files_of_server.ensures.some c.in-Err.ensures.some;
  told = c.in-Err.fault;
  ended_is = c.without_book.ensures.same;
  why = c.in-Err.ensures.why;
  unprinted = c.without_book.ensures.output;
  nothing = c.without_book.ensures.left;
})
