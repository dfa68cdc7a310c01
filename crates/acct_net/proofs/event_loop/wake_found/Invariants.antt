use Rattle.std.proofs.Common.{◌≡◌}
use Rattle.acct_net.proofs.event_loop.wake_found.Given as goal

-- So far only what may wait where has changed.
abbrev pub invariant-loop-event : goal.invariant-loop-event
invariant-loop-event g l = (l.datagrams ≡ record l.fn.datagrams { sockets = l.datagrams.sockets })
    × (l.desk ≡ record l.fn.desk { may_accept = l.desk.may_accept; places = l.desk.places })
