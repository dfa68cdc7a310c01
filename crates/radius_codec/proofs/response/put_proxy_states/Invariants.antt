use Rattle.radius_codec.proofs.States.{StatesLeft}
use Rattle.radius_codec.proofs.response.put_proxy_states.Given as goal

abbrev pub invariant-loop-kind : goal.invariant-loop-kind
invariant-loop-kind l =
    (goal.iterator-loop-kind).can_next l.kind-iterator ×
    (goal.iterator-loop-kind).is_finite l.kind-iterator ×
    StatesLeft l.initial.out l.out l.end l.kind-iterator l.fn.attributes
