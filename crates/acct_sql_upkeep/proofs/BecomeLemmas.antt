-- A transaction that makes the tables of a book of other ones: all of it, or nothing.
use Rattle.std.proofs.Common.{◌≡◌, ◌⊎◌, inl, inr, true, false, Bool, Ok, Err, Result, IsTrue}
use Rattle.std.proofs.Common.{IsOk, OnOk, OnErr, sym, subst, ◌∙◌, arith}
use Rattle.sqlite.specs.Store.{Ghosts}
use Rattle.sqlite.specs.Tree.{Trees}
use Rattle.sqlite.specs.Effect.{Database}
use Rattle.sqlite.specs.State.{State, HasCleanDisk, Survives, KeepsCommit, IsRolledBack, Shows}
use Rattle.sqlite.specs.Held.{Held, state}
use Rattle.sqlite.proofs.Callers.{survives_begin}
use Rattle.sqlite.proofs.StateLemmas.{survives_then}
use Rattle.acct_sql_tables.specs.Book.{IsBook}
use Rattle.acct_sql_tables.specs.Look.{IsIdle}
use Rattle.acct_sql_tables.specs.inner.Inside.{HasFinished, HasBecome, IsBookOf}
use Rattle.acct_sql_tables.proofs.CommitLemmas.{of_ok}

module _ {S T E F : Type 0} (g : Ghosts S) (old end : Held S) (mid : State)
    (Is : Trees → Trees → Type 0)
    (done : Result T F) (result : Result T E) (idle : IsIdle (state g old)) where
  abbrev begun : State
  begun = state g (record old { in_transaction = true })

  abbrev last : State
  last = state g end

  abbrev Made : Trees → Type 0
  Made = Is (state g old).now.trees

  module _ (kept : HasCleanDisk mid → KeepsCommit begun mid)
      (filled : HasCleanDisk mid → OnOk done (HasBecome Is mid))
      (inside : Survives begun mid (λ _. ⊥)) (finished : HasFinished done mid last result) where
    mid_clean : HasCleanDisk last → HasCleanDisk mid
    mid_clean clean = omega (arith, finished.survives.clean, clean)

    old_clean : HasCleanDisk last → HasCleanDisk (state g old)
    old_clean clean = omega (arith, inside.clean, mid_clean clean)

    has : HasCleanDisk last → IsOk done → HasBecome Is mid
    has clean is = of_ok done is (filled (mid_clean clean))

    -- what was committed before is what the database showed
    began_with : HasCleanDisk last → IsTrue mid.is_open → mid.committed ≡ (state g old).now
    began_with clean o =
        let k = kept (mid_clean clean) in
        k.committed o ∙ sym (idle.settled (old_clean clean) (k.was_open o))

    made_of : HasCleanDisk last → IsOk done → Made mid.now.trees
    made_of clean is = let m = has clean is in
        subst (λ (d : Database). Is d.trees mid.now.trees) (began_with clean m.is_open) m.is

    book_by : HasCleanDisk last → (r : Result T E) → OnOk r
        (IsOk done × Shows mid last mid.now mid.now false) → OnOk r
        (IsBookOf Is (state g old).now.trees last)
    book_by clean (Ok x) ok = record {
      settled = ((clean, ok.1.is_open), ok.1.now_is ∙ sym ok.1.committed_is);
      book = subst IsBook (sym ok.1.now_is) (has clean ok.0).book;
      is = subst (λ (d : Database). Made d.trees) (sym ok.1.now_is) (made_of clean ok.0);
    }
    book_by clean (Err e) ok = tt

    pub book_of : HasCleanDisk last → OnOk result (IsBookOf Is (state g old).now.trees last)
    book_of clean = book_by clean result (finished.ok clean)

    both_modes : (b : Bool) → b ≡ true → b ≡ false → ⊥
    both_modes true on off = absurd cc
    both_modes false on off = absurd cc

    rolled : HasCleanDisk last → IsRolledBack mid last ⊎ (IsOk done × (mid.in_transaction ≡ false))
        → IsRolledBack mid last
    rolled clean (inl back) = back
    rolled clean (inr ended) = absurd (both_modes mid.in_transaction (has clean ended.0).mode
        ended.1)

    undone_by : HasCleanDisk last → IsTrue last.is_open → (r : Result T E)
        → OnErr r (IsRolledBack mid last ⊎ (IsOk done × (mid.in_transaction ≡ false)))
        → OnErr r (last.now ≡ (state g old).now)
    undone_by clean o (Ok x) err = tt
    undone_by clean o (Err e) err = let r = rolled clean err in (r.undone o).0
        ∙ began_with clean (r.was_open o)

    pub undone_of : HasCleanDisk last → IsTrue last.is_open
        → OnErr result (last.now ≡ (state g old).now)
    undone_of clean o = undone_by clean o result (finished.err clean)

    pub survives_of : Survives (state g old) last Made
    survives_of = survives_begin g old last Made
        (survives_then begun mid last (λ _. ⊥) (λ db. IsOk done × (db ≡ mid.now.trees)) Made
        (λ _ db none. absurd none) (λ clean db is. subst Made (sym is.1) (made_of clean is.0))
        inside finished.survives)
