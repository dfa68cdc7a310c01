-- Queries in a transaction that is let fall.
use Rattle.std.proofs.Common.{◌≡◌, ◌⊎◌, ◌∙◌, IsTrue, true, false, arith, sym}
use Rattle.sqlite.specs.Store.{Ghosts}
use Rattle.sqlite.specs.Held.{Held, state}
use Rattle.sqlite.specs.State.{State, HasCleanDisk, IsRolledBack, Survives}
use Rattle.sqlite.proofs.StateLemmas.{survives_then}
use Rattle.sqlite.proofs.Callers.{survives_begin}
use Rattle.acct_sql_tables.specs.Look.{IsIdle, LooksAtTables}

-- what was shown in a transaction that is let fall changed nothing
pub let_fall : {S : Type 0} (g : Ghosts S) (old end : Held S) (mid : State) → IsIdle (state g old)
    → Survives (state g (record old { in_transaction = true })) mid (λ _. ⊥)
    → Survives mid (state g end) (λ _. ⊥) → (HasCleanDisk (state g end)
    → IsRolledBack mid (state g end)) → (state g end).in_transaction ≡ false
    → (HasCleanDisk mid → IsTrue mid.is_open → IsTrue (state g old).is_open
    × (mid.committed ≡ (state g old).committed)) → LooksAtTables (state g old) (state g end)
let_fall g old end mid idle inside undone rolled ended kept = record {
  idle = record {
    autocommit = ended;
    settled = λ clean o. let r = rolled clean in (r.undone o).0 ∙ sym (r.undone o).1;
  };
  was_open = λ clean o. (kept (omega (arith, undone.clean, clean)) ((rolled clean).was_open o)).0;
  same = λ clean o.
      let r = rolled clean in
      let k = kept (omega (arith, undone.clean, clean)) (r.was_open o) in
      (r.undone o).0 ∙ (k.1 ∙ sym (idle.settled (omega (arith, inside.clean, undone.clean, clean))
      k.0));
  survives = survives_begin g old (state g end) (λ _. ⊥)
      (survives_then _ mid _ (λ _. ⊥) (λ _. ⊥) (λ _. ⊥) (λ _ db none. none) (λ _ db none. none)
      inside undone);
}
