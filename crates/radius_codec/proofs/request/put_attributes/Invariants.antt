use Rattle.std.proofs.Common.{drop}
use Rattle.radius_codec.specs.Attributes.{pairs}
use Rattle.radius_codec.proofs.States.{AttributesLeft}
use Rattle.radius_codec.proofs.request.put_attributes.Given as goal

abbrev pub invariant-loop-kind : goal.invariant-loop-kind
invariant-loop-kind l =
    AttributesLeft l.initial.out l.out l.end (pairs (drop l.kind-index l.attributes))
    (pairs l.fn.attributes)
