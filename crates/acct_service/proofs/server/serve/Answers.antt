use Rattle.std.proofs.Common.{arith}
use Rattle.acct_service.proofs.Visits.{none_at_most, at_most_greater, serves_first, serves_more}
use Rattle.acct_service.proofs.server.serve.Goals as goal

pub take_turns-requires-clause-room : goal.take_turns-requires-clause-room
take_turns-requires-clause-room g c =
    let none = c.none-served.ensures in
    at_most_greater 0 _ c.none-served.result (omega arith)
    (none_at_most c.none-served.result none.counts none.faults)

pub returns-clause-within : goal.returns-clause-within
returns-clause-within g c =
    let none = c.none-served.ensures in
    at_most_greater _ _ c.take_turns.new.served (omega arith)
    (c.take_turns.ensures.room 0
    (none_at_most c.none-served.result none.counts none.faults))

pub returns-clause-serves : goal.returns-clause-serves
returns-clause-serves g c =
    let b = g.B.Book in
    let x = g.X.Exchange in
    serves_more b c.args.config.now c.args.book.now c.args.book.now c.take_turns.new.book
    (x.told c.args.exchange.now) (x.told c.args.exchange.now) (x.told c.take_turns.new.exchange)
    c.none-served.result c.take_turns.new.served c.new-out.result.has_answered
    c.take_turns.new.out.has_answered
    (serves_first b c.args.config.now c.args.book.now (x.told c.args.exchange.now)
    c.none-served.result c.none-served.ensures.counts)
    c.take_turns.ensures.taken
