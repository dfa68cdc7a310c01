use Rattle.std.proofs.Common.{sym, ◌∙◌, subst}
use Rattle.sqlite.specs.Files.{AreFoundIn}
use Rattle.sqlite.proofs.Callers.{finds_again}
use Rattle.acct_program_jobs.proofs.database.emptied.Goals as goal

pub returns-in-Ok-open_files_with-clause-found : goal.returns-in-Ok-open_files_with-clause-found
returns-in-Ok-open_files_with-clause-found g c image held clean =
    let finds = c.in-Ok-open_files_with.ensures.found clean in
    let copied = c.in-Ok.ensures.copied in
    let before = held (copied finds.honest).was_clean in
    let same = finds_again c.args.connection c.in-Ok-open_files_with.connection c.in-Ok.files copied finds in (
      c.in-Ok-open_files_with.ensures.opened clean,
      record {
        holds = λ db there. same ∙ before.1.holds db there;
        reads = subst (AreFoundIn image) (sym same) before.1.reads;
      },
    )
