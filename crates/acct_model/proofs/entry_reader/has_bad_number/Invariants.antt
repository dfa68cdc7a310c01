use Rattle.std.proofs.Common.{◌≡◌, drop}
use Rattle.std.specs.Prelude.{is_none}
use Rattle.std.specs.List.{list_any}
use Rattle.acct_model.specs.Entries.{number_at, number_types}
use Rattle.acct_model.proofs.entry_reader.has_bad_number.Given as goal

abbrev pub invariant-loop-kind : goal.invariant-loop-kind
invariant-loop-kind l =
    list_any (λ kind. is_none (number_at kind l.attributes)) (drop l.kind-index l.kind-items)
    ≡ list_any (λ kind. is_none (number_at kind l.fn.attributes)) number_types
