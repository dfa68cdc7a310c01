use Rattle.std.proofs.Common.{◌≡◌, false, ◌+◌, ◌<◌, ◌≤◌, ◌-◌}
use Rattle.std.specs.Prelude.{unwrap_or}
use Rattle.acct_service.specs.Serving.{AtMost}
use Rattle.acct_service.specs.declared.slices.Until.TheVariants as until
use Rattle.acct_service.proofs.Sliced.{Reached}
use Rattle.acct_service.proofs.slices.serve_in_slices.Given as goal

abbrev pub invariant-loop-left : goal.invariant-loop-left
invariant-loop-left g l =
    let b = g.B.Book in
    let x = g.X.Exchange in
    let r = g.G.Rounds in
    record {
      left : l.left ≤ l.limit;
      turns : x.turn_count l.exchange + l.left ≡ x.turn_count l.fn.exchange + l.limit;
      faults : x.failure_count l.exchange ≡ x.failure_count l.fn.exchange + l.served.faults;
      open_is : l.left < l.limit → b.is_sound l.book → b.is_open l.book;
      goes_on : l.left < l.limit → r.is_over l.rounds ≡ false;
      room : AtMost (l.limit - l.left) l.served;
      reached : Reached b r l.rules.oldest l.rules.config.now l.limit l.fn.book l.book (x.told l.fn.exchange) (x.told l.exchange)
          l.fn.rounds l.rounds (unwrap_or l.changed l.rules.config.now)
          (l.limit - l.left) l.served until.AllMade;
    }

abbrev pub decreases-loop-left : goal.decreases-loop-left
decreases-loop-left g l = l.left
