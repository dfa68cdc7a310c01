use Rattle.std.proofs.Common.{arith, ◌∙◌, ap, subst, ◌-◌, Some}
use Rattle.acct_service.proofs.Visits.{at_most_greater, none_at_most}
use Rattle.acct_service.specs.declared.slices.Until.TheVariants as until
use Rattle.acct_service.proofs.Sliced.{Reached, reached_none, reached_slice, site_found}
use Rattle.acct_service.proofs.Sliced.{stuck_so, not_stuck_so, ends_early}
use Rattle.acct_service.proofs.slices.serve_in_slices.Goals as goal

pub loop-left-init : goal.loop-left-init
loop-left-init g c =
    let x = g.X.Exchange in
    let none = c.none-served.ensures in
    record {
      left = omega arith;
      turns = omega arith;
      faults = omega (arith, none.faults);
      open_is = λ less. absurd (omega (arith, less));
      goes_on = λ less. absurd (omega (arith, less));
      room = at_most_greater 0 _ c.none-served.result (omega arith)
          (none_at_most c.none-served.result none.counts none.faults);
      reached = subst
          (λ m. Reached g.B.Book g.G.Rounds c.args.rules.now.oldest c.args.rules.now.config.now c.args.limit
          c.args.book.now c.args.book.now (x.told c.args.exchange.now) (x.told c.args.exchange.now)
          c.args.rounds.now c.args.rounds.now c.args.rules.now.config.now m c.none-served.result
          until.AllMade) (omega arith)
          (reached_none g.B.Book g.G.Rounds c.args.rules.now.oldest c.args.rules.now.config.now c.args.limit c.args.book.now
          (x.told c.args.exchange.now) c.args.rounds.now c.none-served.result none.counts);
    }

pub returns-in-Some-clause-within : goal.returns-in-Some-clause-within
returns-in-Some-clause-within g c = at_most_greater _ _ c.take_turns.new.served
    (omega (arith, c.loop-left.invariant.left, c.min-slice.ensures))
    (c.take_turns.ensures.room _ c.loop-left.invariant.room)

pub returns-in-Some-clause-serves : goal.returns-in-Some-clause-serves
returns-in-Some-clause-serves g c =
    let b = g.B.Book in
    let x = g.X.Exchange in
    let r = g.G.Rounds in
    let turns = c.take_turns.ensures in
    let taken = turns.taken in
    let found = ap (λ (s : _). s.now) c.unwrap_or-config.ensures
    ∙ site_found c.args.rules.now.config c.loop-left.changed c.as_ref.result c.as_ref.ensures.value in
    let ends = ends_early c.in-Some.why c.ending.result taken.visits c.in-Some.is c.ending.ensures.early
    (λ is. let yes = c.are_stuck-is_stuck.ensures.yes (c.ending.ensures.stuck is) in
    stuck_so taken.visits c.loop-left.served c.take_turns.new.served
    c.take_turns.new.out.has_answered taken.counts (rw c.forget_answers.ensures at taken.answered) yes.0
    (rw c.drops_for-refused.ensures at yes.1)) in
    (reached_slice b r c.args.rules.now.oldest c.args.rules.now.config.now c.args.limit c.args.book.now c.loop-left.book
    c.take_turns.new.book c.go_round.new.book c.ending.new.book (x.told c.args.exchange.now)
    (x.told c.loop-left.exchange) (x.told c.take_turns.new.exchange)
    c.args.rounds.now c.loop-left.rounds c.go_round.new.self
    c.loop-left.changed c.go_round.result c.unwrap_or-config.result.now
    (c.args.limit - c.loop-left.left) c.min-slice.result _ c.loop-left.served
    c.take_turns.new.served _ _ c.in-Some.why
    (omega (
      arith,
      c.loop-left.invariant.turns,
      c.loop-left.invariant.left,
      turns.turns,
      c.min-slice.ensures,
    )) found (omega (arith, c.min-slice.ensures, c.loop-left.invariant.left))
    turns.events c.loop-left.invariant.reached taken
    (λ is. turns.silent (c.is_silent.ensures ∙ is)) ends
    (λ is. absurd (c.ending.ensures.early (c.in-Some.is ∙ ap (λ it. Some it) is)))
    (λ is. absurd (c.ending.ensures.early (c.in-Some.is ∙ ap (λ it. Some it) is)))
    c.go_round.ensures.looks c.go_round.ensures.plans c.go_round.ensures.goes
    c.go_round.ensures.shows c.ending.ensures.looks).so_far

pub loop-left-preserved : goal.loop-left-preserved
loop-left-preserved g c =
    let b = g.B.Book in
    let x = g.X.Exchange in
    let r = g.G.Rounds in
    let before = c.loop-left.invariant in
    let turns = c.take_turns.ensures in
    let taken = turns.taken in
    let found = ap (λ (s : _). s.now) c.unwrap_or-config.ensures
    ∙ site_found c.args.rules.now.config c.loop-left.changed c.as_ref.result c.as_ref.ensures.value in
    let not = not_stuck_so taken.visits c.loop-left.served c.take_turns.new.served
    c.take_turns.new.out.has_answered taken.counts (rw c.forget_answers.ensures at taken.answered)
    (rw c.drops_for-refused.ensures at c.are_stuck-is_stuck.ensures.no
    (c.ending.ensures.goes_on c.in_default.is).0) in
    let reached = reached_slice b r c.args.rules.now.oldest c.args.rules.now.config.now c.args.limit c.args.book.now c.loop-left.book
    c.take_turns.new.book c.go_round.new.book c.ending.new.book (x.told c.args.exchange.now)
    (x.told c.loop-left.exchange) (x.told c.take_turns.new.exchange)
    c.args.rounds.now c.loop-left.rounds c.go_round.new.self
    c.loop-left.changed c.go_round.result c.unwrap_or-config.result.now
    (c.args.limit - c.loop-left.left) c.min-slice.result
    (c.args.limit - (c.loop-left.left - c.min-slice.result)) c.loop-left.served
    c.take_turns.new.served _ _ until.AllMade
    (omega (arith, before.left, c.min-slice.ensures)) found (omega (arith, c.min-slice.ensures, c.loop-left.invariant.left))
    turns.events before.reached taken
    (λ is. turns.silent (c.is_silent.ensures ∙ is)) not
    (λ is. (c.ending.ensures.goes_on c.in_default.is).1)
    (λ is. c.ending.ensures.open c.in_default.is) c.go_round.ensures.looks
    c.go_round.ensures.plans c.go_round.ensures.goes c.go_round.ensures.shows
    c.ending.ensures.looks in
    record {
      left = omega (arith, before.left);
      turns = omega (arith, before.turns, before.left, turns.turns, c.min-slice.ensures);
      faults = omega (arith, before.faults, turns.faults);
      open_is = λ less. c.ending.ensures.open c.in_default.is;
      goes_on = λ less. (c.ending.ensures.goes_on c.in_default.is).1;
      room = at_most_greater _ _ c.take_turns.new.served
          (omega (arith, before.left, c.min-slice.ensures)) (turns.room _ before.room);
      reached = rw c.or-changed.ensures reached;
    }
