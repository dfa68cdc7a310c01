use Rattle.std.proofs.Common.{true, false, arith, refl, ap, ◌∙◌}
use Rattle.acct_service.specs.Machine.{replied, dropped, mute}
use Rattle.acct_service.proofs.Visits.{turn_none, turn_one, grows_twice}
use Rattle.acct_service.proofs.server.take_turn.Goals as goal

pub returns-in-Err-clause-turn : goal.returns-in-Err-clause-turn
returns-in-Err-clause-turn g c =
    let none = rw c.in-Err.is at c.next.ensures.told in
    turn_none g.B.Book c.args.rules.now.oldest c.args.rules.now.config.now c.args.book.now _ _ _ _ _ none
    (record {
      events = omega arith;
      replies = omega arith;
      dropped = λ reason. omega arith;
      mute = omega arith;
    })

pub returns-in-Ok-None-clause-turn : goal.returns-in-Ok-None-clause-turn
returns-in-Ok-None-clause-turn g c =
    let none = rw (c.in-Ok-None.is, c.in-Ok-None.field-0-is) at c.next.ensures.told in
    turn_none g.B.Book c.args.rules.now.oldest c.args.rules.now.config.now c.args.book.now _ _ _ _ _ none
    (record {
      events = omega arith;
      replies = omega arith;
      dropped = λ reason. omega arith;
      mute = omega arith;
    })

pub returns-in-Ok-clause-turn : goal.returns-in-Ok-clause-turn
returns-in-Ok-clause-turn g c =
    let b = g.B.Book in
    let gave = rw (c.in-Ok-Some.is, c.in-Ok-Some.field-0-is) at c.next.ensures.told in
    let sent = rw (c.in-Ok.is, c.bytes.ensures) at c.reply.ensures.told in
    turn_one b c.args.rules.now.oldest c.args.rules.now.config.now c.args.book.now c.step_within.new.book _ _ _ _ _ _ c.in-Ok-Some.event
    (replied c.step_within.new.out.octets) true c.in-Reply.ensures.step (
      grows_twice _ _ _ _ _ gave sent,
      record {
        events = refl;
        replies = refl;
        dropped = λ reason. omega arith;
        mute = omega arith;
      },
      c.in-Reply.ensures.answered,
    )

pub returns-in-Reply-clause-turn : goal.returns-in-Reply-clause-turn
returns-in-Reply-clause-turn g c =
    let b = g.B.Book in
    let gave = rw (c.in-Ok-Some.is, c.in-Ok-Some.field-0-is) at c.next.ensures.told in
    let sent = rw (c.in-Err-reply.is, c.bytes.ensures) at c.reply.ensures.told in
    turn_one b c.args.rules.now.oldest c.args.rules.now.config.now c.args.book.now c.step_within.new.book _ _ _ _ _ _ c.in-Ok-Some.event
    (replied c.step_within.new.out.octets) false c.in-Reply.ensures.step (
      grows_twice _ _ _ _ _ gave sent,
      record {
        events = refl;
        replies = omega arith;
        dropped = λ reason. omega arith;
        mute = omega arith;
      },
      c.in-Reply.ensures.answered,
    )

pub returns-in-Dropped-clause-turn : goal.returns-in-Dropped-clause-turn
returns-in-Dropped-clause-turn g c =
    let b = g.B.Book in
    let gave = rw (c.in-Ok-Some.is, c.in-Ok-Some.field-0-is) at c.next.ensures.told in
    turn_one b c.args.rules.now.oldest c.args.rules.now.config.now c.args.book.now c.step_within.new.book _ _ _ _ _ _ c.in-Ok-Some.event
    (dropped c.in-Dropped.reason) false c.in-Dropped.ensures.step (
      grows_twice _ _ _ _ _ gave c.note_drop.ensures.told,
      record {
        events = ap (λ s. s.events) c.count_drop.ensures.others;
        replies = ap (λ s. s.replies) c.count_drop.ensures.others ∙ omega arith;
        dropped = λ reason. c.count_drop.ensures.dropped reason ∙ omega arith;
        mute = ap (λ s. s.mute) c.count_drop.ensures.others ∙ omega arith;
      },
      c.in-Dropped.ensures.answered,
    )

pub returns-clause-turn : goal.returns-clause-turn
returns-clause-turn g c =
    let b = g.B.Book in
    let gave = rw (c.in-Ok-Some.is, c.in-Ok-Some.field-0-is) at c.next.ensures.told in
    turn_one b c.args.rules.now.oldest c.args.rules.now.config.now c.args.book.now c.step_within.new.book _ _ _ _ _ _ c.in-Ok-Some.event mute
    false c.in-Mute.ensures.step (
      gave,
      record {
        events = refl;
        replies = omega arith;
        dropped = λ reason. omega arith;
        mute = refl;
      },
      c.in-Mute.ensures.answered,
    )
