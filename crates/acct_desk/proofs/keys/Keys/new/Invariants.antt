use Rattle.std.proofs.Common.{◌≡◌, ◌++◌, None}
use Rattle.std.specs.Vec.Iter.{into_iter_items}
use Rattle.acct_model.specs.Faults.{first_fault_after}
use Rattle.acct_desk.specs.KeyFaults.{key_fault, keys_fault}
use Rattle.acct_desk.proofs.keys.Keys.new.Given as goal

abbrev pub invariant-loop-key : goal.invariant-loop-key
invariant-loop-key l =
    record {
      rest : l.keys.list ++ into_iter_items l.key-iterator ≡ l.fn.list.items;
      faults : first_fault_after key_fault l.keys.list (into_iter_items l.key-iterator)
          ≡ keys_fault l.fn.list.items;
      unsigned : l.keys.signing ≡ None;
    }
