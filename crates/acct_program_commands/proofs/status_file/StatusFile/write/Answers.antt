use Rattle.std.proofs.Common.{◌∙◌, ap, subst, sym}
use Rattle.acct_program_commands.specs.Placed.{PutsFigures}
use Rattle.acct_program_commands.specs.declared.fresh_file.FreshFile.{FreshFile}
use Rattle.acct_program_commands.proofs.Placed.{put_if_fine}
use Rattle.acct_program_commands.proofs.status_file.StatusFile.write.Goals as goal

pub returns-clause-put : goal.returns-clause-put
returns-clause-put g c = λ fine. (
  c.figures-figures.result.state,
  subst (PutsFigures (g.R.ReplacesFiles.was_put c.args.self.now.file.name)) c.figures-figures.ensures
      (put_if_fine c.write_file-written.result c.write_file-written.ensures.put
      (sym (ap (λ (file : FreshFile). file.is_failing) c.note.ensures.noted) ∙ fine)),
)
