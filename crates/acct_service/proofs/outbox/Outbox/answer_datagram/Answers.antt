use Rattle.acct_wire.specs.declared.answering.Outcome.TheVariants.{Reply, Drop}
use Rattle.acct_service.proofs.Steps.{datagram_step}
use Rattle.acct_service.proofs.outbox.Outbox.answer_datagram.Goals as goal

pub returns-in-Reply-clause-step : goal.returns-in-Reply-clause-step
returns-in-Reply-clause-step g c port =
    let d = c.args.datagram.now in
    datagram_step g.B.Book c.args.rules.now.oldest c.args.rules.now.config.now c.args.book.now
    c.answer_within-outcome.new.book d.source d.bytes.now c.answer_within-outcome.new.out d.moment port (Reply c.in-Reply.size)
    c.in-Reply.ensures.answers

pub returns-in-Drop-clause-step : goal.returns-in-Drop-clause-step
returns-in-Drop-clause-step g c port =
    let d = c.args.datagram.now in
    datagram_step g.B.Book c.args.rules.now.oldest c.args.rules.now.config.now c.args.book.now
    c.answer_within-outcome.new.book d.source d.bytes.now c.answer_within-outcome.new.out d.moment port (Drop c.in-Drop.reason)
    c.in-Drop.ensures.answers
