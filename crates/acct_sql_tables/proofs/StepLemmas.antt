-- Statements one after another inside a transaction.
use Rattle.std.proofs.Common.{◌≡◌, inl, inr, ℕ, List, Bool, true, false, Ok, Err, Result, IsTrue}
use Rattle.std.proofs.Common.{refl, sym, subst, ◌∙◌, arith}
use Rattle.std.specs.Borrow.{MutBor}
use Rattle.std.proofs.lemmas.Bool.{cases_Bool}
use Rattle.sqlite.specs.Order.{Row}
use Rattle.sqlite.specs.Store.{Ghosts}
use Rattle.sqlite.specs.Held.{Held, state}
use Rattle.sqlite.specs.declared.error.Error.{Error}
use Rattle.sqlite.specs.State.{State, ExecutesInside, KeepsCommit, IsRolledBack, IsUnchanged}
use Rattle.sqlite.specs.State.{HasCleanDisk, Survives}
use Rattle.sqlite.proofs.StateLemmas.{survives_then}
use Rattle.acct_sql_tables.specs.inner.Inside.{CommitsNothing}

pub is_inside : {X : Type 0} (b : Bool) (x : X) (r : Result X Error) (e : Error) → r ≡ Ok x
    → (b ≡ false → r ≡ Err e) → IsTrue b
is_inside true x r e is ended = refl
is_inside false x r e is ended = absurd (let one = sym is ∙ ended refl in cc)

pub keeps_then : (a b c : State) → KeepsCommit a b → KeepsCommit b c → KeepsCommit a c
keeps_then a b c p q = record {
  was_open = λ o. p.was_open (q.was_open o);
  committed = λ o. q.committed o ∙ p.committed (q.was_open o);
}

pub rolled_keeps : (old new : State) → IsRolledBack old new → KeepsCommit old new
rolled_keeps old new r = record { was_open = r.was_open; committed = λ o. (r.undone o).1 }

pub unchanged_keeps : (old new : State) → IsUnchanged old new → KeepsCommit old new
unchanged_keeps old new u = record {
  was_open = λ _. u.0.was_open;
  committed = λ _. u.0.committed_is;
}

inside_keeps : (sql : List ℕ) (params : Row) (old new : State) (r : Result ℕ Error)
    → ExecutesInside 0 sql params old new r → KeepsCommit old new
inside_keeps sql params old new (Ok count) h = record {
  was_open = λ _. h.1.was_open;
  committed = λ _. h.1.committed_is;
}
inside_keeps sql params old new (Err e) (inl ran) = elim ran.1
    [ inl same ↦ unchanged_keeps old new same | inr rolled ↦ rolled_keeps old new rolled ]
inside_keeps sql params old new (Err e) (inr ended) = unchanged_keeps old new ended.2

same_keeps : {S : Type 0} (g : Ghosts S) (old new : Held S) → new ≡ old
    → KeepsCommit (state g old) (state g new)
same_keeps g old new same = subst (λ h. KeepsCommit (state g old) (state g h)) (sym same)
    (record { was_open = λ o. o; committed = λ _. refl })

-- in or out of a transaction
pub execute_keeps : {S : Type 0} (g : Ghosts S) (sql : List ℕ) (params : Row) (old new : Held S)
    (r : Result ℕ Error) → ((state g old).in_transaction ≡ false → new ≡ old)
    → (IsTrue (state g old).in_transaction → ExecutesInside 0 sql params (state g old) (state g new)
    r) → KeepsCommit (state g old) (state g new)
execute_keeps g sql params old new r out inside = elim (cases_Bool (state g old).in_transaction) [
  | inl on ↦ inside_keeps sql params (state g old) (state g new) r (inside on)
  | inr off ↦
      same_keeps g old new (out off)
]

-- ---- a call that commits nothing

pub execute_quiet : {S : Type 0} (g : Ghosts S) (sql : List ℕ) (params : Row)
    (old new : MutBor (Held S)) (r : Result ℕ Error) → new.ghost_name ≡ old.ghost_name
    → ((state g old.now).in_transaction ≡ false → new.now ≡ old.now)
    → (HasCleanDisk (state g new.now) → IsTrue (state g old.now).in_transaction
    → ExecutesInside 0 sql params (state g old.now) (state g new.now) r)
    → Survives (state g old.now) (state g new.now) (λ _. ⊥) → CommitsNothing g old new
execute_quiet g sql params old new r same out inside survives = record {
  same_reference = same;
  kept = λ clean. execute_keeps g sql params old.now new.now r out (inside clean);
  survives = survives;
}

pub quiet_then : {S : Type 0} (g : Ghosts S) (a b c : MutBor (Held S)) → CommitsNothing g a b
    → CommitsNothing g b c → CommitsNothing g a c
quiet_then g a b c one two = record {
  same_reference = two.same_reference ∙ one.same_reference;
  kept = λ clean. keeps_then (state g a.now) (state g b.now) (state g c.now)
      (one.kept (omega (arith, two.survives.clean, clean))) (two.kept clean);
  survives = survives_then (state g a.now) (state g b.now) (state g c.now) (λ _. ⊥) (λ _. ⊥)
      (λ _. ⊥) (λ _ db none. none) (λ _ db none. none) one.survives two.survives;
}

-- before the first of them
pub quiet_none : {S : Type 0} (g : Ghosts S) (a : MutBor (Held S)) → CommitsNothing g a a
quiet_none g a = record {
  same_reference = refl;
  kept = λ clean. record { was_open = λ o. o; committed = λ _. refl };
  survives = record {
    clean = omega arith;
    shield = λ h. h;
    counts = omega arith;
    limit = refl;
    closes = λ clean o. inl o;
    crash = λ clean db left. inl left;
  };
}
