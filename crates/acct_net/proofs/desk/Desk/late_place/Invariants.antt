-- The time of nobody before this place is up.
use Rattle.std.proofs.Common.{◌<◌, ℕ, Option}
use Rattle.std.specs.Prelude.{slice_index_or}
use Rattle.acct_net_callers.specs.declared.caller.Caller.{Caller}
use Rattle.acct_net.specs.inner.Places.{IsLate}
use Rattle.acct_net.proofs.desk.Desk.late_place.Given as goal

abbrev pub invariant-loop-place : goal.invariant-loop-place
invariant-loop-place g l = (k : ℕ) (d : Option (Caller g.row.R-Stream.Denot)) → k < l.place
    → ¬ IsLate l.now (slice_index_or l.self.places.items k d)
