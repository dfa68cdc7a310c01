use Rattle.acct_book.proofs.Looking.{looks_none}
use Rattle.acct_program_commands.proofs.Forwarded.{forwards_looked, forwards_carried, may_timely}
use Rattle.acct_program_commands.proofs.forward_command.carry.Goals as goal

pub returns-then-carrying-clause-forwards : goal.returns-then-carrying-clause-forwards
returns-then-carrying-clause-forwards g c =
    forwards_looked g.B.Book c.args.plans.now c.args.carrying.now c.args.clock.moment c.args.clock.written_at
    c.args.book.now c.args.book.now _ (looks_none g.B.Book c.args.book.now) c.requires.answers

pub returns-clause-forwards : goal.returns-clause-forwards
returns-clause-forwards g c =
    forwards_carried g.B.Book c.args.plans.now c.args.carrying.now c.args.clock.moment
    c.args.clock.written_at c.args.selection.now c.args.book.now c.carry_all.new.book c.carry_all.result
    c.if-carrying.false c.requires.selected c.requires.far
    (may_timely g.B.Book c.args.selection.now c.args.book.now c.args.carrying.now.is_sure
    c.args.clock.moment c.args.clock.written_at c.args.found.sessions.carried
    c.if-found-eq0.false c.requires.timely)
    c.carry_all.ensures.carries
