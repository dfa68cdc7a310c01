use Rattle.std.proofs.Common.{◌≡◌, ◌+◌, ◌≤◌, ℕ, true}
use Rattle.acct_service.specs.Serving.{TakesTurns, AtMost}
use Rattle.acct_service.proofs.server.take_turns.Given as goal

abbrev pub invariant-loop-turn : goal.invariant-loop-turn
invariant-loop-turn g l =
    let b = g.B.Book in
    let x = g.X.Exchange in
    record {
      turns : x.turn_count l.exchange ≡ x.turn_count l.fn.exchange + l.turn;
      faults : x.failure_count l.exchange + l.fn.served.faults
          ≡ x.failure_count l.fn.exchange + l.served.faults;
      events : l.served.events ≤ l.fn.served.events + l.turn;
      silent : l.turns.is_silent ≡ true → l.served.events ≡ l.fn.served.events;
      few : x.failure_count l.exchange ≤ x.failure_count l.fn.exchange + l.turn;
      room : (n : ℕ) → AtMost n l.fn.served → AtMost (n + l.turn) l.served;
      taken : TakesTurns b l.rules.oldest l.rules.config.now l.fn.book l.book (x.told l.fn.exchange) (x.told l.exchange)
          l.fn.served l.served l.fn.out.has_answered l.out.has_answered;
    }
