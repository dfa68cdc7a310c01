-- So far only places, and whose turn is next, have changed.
use Rattle.std.proofs.Common.{◌≡◌}
use Rattle.acct_net.proofs.desk.Desk.serve_ready.Given as goal

abbrev pub invariant-loop : goal.invariant-loop
invariant-loop g l = l.self ≡ record l.fn.self {
  is_full = l.self.is_full;
  places = l.self.places;
  next = l.self.next;
}
