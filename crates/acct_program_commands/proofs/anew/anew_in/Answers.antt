use Rattle.acct_book.proofs.Looking.{looks_none, looks_once}
use Rattle.acct_program_commands.proofs.anew.anew_in.Goals as goal

pub returns-in-None-clause-reads : goal.returns-in-None-clause-reads
returns-in-None-clause-reads g c = looks_none g.B.Book c.args.book.now

pub returns-in-Some-clause-reads : goal.returns-in-Some-clause-reads
returns-in-Some-clause-reads g c = looks_once g.B.Book _ _ _ c.count_anew.ensures.reads
