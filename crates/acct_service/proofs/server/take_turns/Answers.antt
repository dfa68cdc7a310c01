use Rattle.std.proofs.Common.{◌+◌, ◌-◌, ◌^◌, arith, refl, ◌∙◌}
use Rattle.acct_service.proofs.Visits.{at_most_greater, turns_none, turns_more}
use Rattle.acct_service.proofs.server.take_turns.Goals as goal

pub loop-turn-init : goal.loop-turn-init
loop-turn-init g c =
    let b = g.B.Book in
    let x = g.X.Exchange in
    record {
      turns = omega arith;
      faults = omega arith;
      events = omega arith;
      silent = λ is. refl;
      few = omega arith;
      room = λ n most. at_most_greater n (n + 0) c.args.served.now (omega arith) most;
      taken = turns_none b c.args.rules.now.oldest c.args.rules.now.config.now c.args.book.now (x.told c.args.exchange.now)
          c.args.served.now c.args.out.now.has_answered;
    }

pub loop-turn-preserved : goal.loop-turn-preserved
loop-turn-preserved g c =
    let b = g.B.Book in
    let x = g.X.Exchange in
    let before = c.loop-turn.invariant in
    let turn = c.take_turn.ensures in
    record {
      turns = omega (arith, before.turns, turn.turns);
      faults = omega (arith, before.faults, turn.faults);
      few = omega (arith, before.few, turn.few);
      events = omega (arith, before.events, turn.events);
      silent = λ is. turn.silent is ∙ before.silent is;
      room = λ n most. at_most_greater (n + c.loop-turn.turn + 1) (n + (c.loop-turn.turn + 1))
          c.take_turn.new.served (omega arith)
          (turn.room (n + c.loop-turn.turn) (before.room n most));
      taken = turns_more b c.args.rules.now.oldest c.args.rules.now.config.now c.args.book.now c.loop-turn.book
          c.take_turn.new.book (x.told c.args.exchange.now) (x.told c.loop-turn.exchange)
          (x.told c.take_turn.new.exchange) c.args.served.now c.loop-turn.served
          c.take_turn.new.served c.args.out.now.has_answered c.loop-turn.out.has_answered
          c.take_turn.new.out.has_answered before.taken turn.turn;
    }

pub take_turn-requires-clause-failures : goal.take_turn-requires-clause-failures
take_turn-requires-clause-failures g c =
    omega (arith, c.loop-turn.invariant.few, c.requires.failures, c.loop-turn-test.true)

pub take_turn-requires-clause-room : goal.take_turn-requires-clause-room
take_turn-requires-clause-room g c = at_most_greater _ _ c.loop-turn.served (omega arith)
    (c.loop-turn.invariant.room (2 ^ 64 - 1 - c.args.turns.count) c.requires.room)

pub returns-clause-room : goal.returns-clause-room
returns-clause-room g c n most = at_most_greater _ _ c.loop-turn.served (omega arith)
    (c.loop-turn.invariant.room n most)
