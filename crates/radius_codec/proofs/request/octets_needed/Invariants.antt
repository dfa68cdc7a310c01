use Rattle.std.proofs.Common.{drop}
use Rattle.radius_codec.specs.Attributes.{pairs}
use Rattle.radius_codec.proofs.States.{Measured}
use Rattle.radius_codec.proofs.request.octets_needed.Given as goal

abbrev pub invariant-loop-value : goal.invariant-loop-value
invariant-loop-value l =
    Measured l.size (pairs (drop l.value-index l.attributes)) (pairs l.fn.attributes)
