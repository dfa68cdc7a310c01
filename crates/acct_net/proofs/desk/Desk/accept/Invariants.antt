-- So far only places, and what is known of who waits, have changed.
use Rattle.std.proofs.Common.{◌≡◌}
use Rattle.acct_net.proofs.desk.Desk.accept.Given as goal

abbrev pub invariant-loop : goal.invariant-loop
invariant-loop g l = l.self ≡ record l.fn.self {
  may_accept = l.self.may_accept;
  is_full = l.self.is_full;
  places = l.self.places;
}
