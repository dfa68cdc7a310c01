use Rattle.acct_book_forward.proofs.Carrying.{lines_apart}
use Rattle.acct_book_forward.proofs.batch.line_for.Goals as goal

pub carried_row-requires-clause-apart : goal.carried_row-requires-clause-apart
carried_row-requires-clause-apart g c =
    lines_apart c.args.batch.now.rows.now c.in_ok-into.into c.requires.apart c.in_ok-into.ensures.line
