use Rattle.acct_files.specs.Exporting.{export_text, line}
use Rattle.acct_files.proofs.Walking.{appends_then, appends_kept}
use Rattle.acct_files.proofs.walk.write_members.Goals as goal

pub returns-in-Ok-clause-text : goal.returns-in-Ok-clause-text
returns-in-Ok-clause-text g c =
    let x = g.X.Export in
    let export = c.args.export.now in
    let (members, written, counted, meets) = c.in_ok-count.ensures.text in (
      members,
      appends_kept _ _ _ (export_text (x.header export) (x.text_of export) members)
          (appends_then _ _ _ (line (x.header export)) _ c.in_ok-lines.ensures.text written)
          c.in-Ok.ensures,
      counted,
      meets,
    )
