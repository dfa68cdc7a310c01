use Rattle.acct_book.proofs.Removing.{set_then_removed}
use Rattle.acct_book.proofs.memory_book.put_alone.Goals as goal

pub returns-clause-put : goal.returns-clause-put
returns-clause-put c =
    set_then_removed c.args.rows.now c.insert.new.self c.take_out.new.rows c.args.gone.now
    c.args.key c.args.row c.requires c.in-Ok.ensures.updates c.take_out.ensures
