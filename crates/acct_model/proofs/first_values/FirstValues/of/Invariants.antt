use Rattle.acct_model.proofs.FirstValues.{FirstsLeft}
use Rattle.acct_model.proofs.first_values.FirstValues.of.Given as goal

abbrev pub invariant-loop-kind : goal.invariant-loop-kind
invariant-loop-kind l =
    (goal.iterator-loop-kind).can_next l.kind-iterator ×
    (goal.iterator-loop-kind).is_finite l.kind-iterator ×
    FirstsLeft l.values l.kind-iterator l.fn.attributes
