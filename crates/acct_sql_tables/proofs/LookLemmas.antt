-- Queries outside a transaction, which change nothing.
use Rattle.std.proofs.Common.{◌≡◌, ◌⊎◌, inl, inr, List, false, Option, Some, None, Ok, Err, Result}
use Rattle.std.proofs.Common.{IsTrue, IfOk, IfErr, OnOk, sym, ap, subst, ◌∙◌, arith, ℕ}
use Rattle.sqlite.specs.declared.error.Error.{Error}
use Rattle.sqlite.specs.Order.{Row}
use Rattle.sqlite.specs.Effect.{Database}
use Rattle.sqlite.specs.State.{State, HasCleanDisk, IsUnchanged, IsRolledBack, Shown, FailsToQuery}
use Rattle.sqlite.specs.State.{FailsToShow, IsNotRun, Survives, CommitsShowing}
use Rattle.sqlite.specs.Listing.{understood}
use Rattle.sqlite.proofs.Callers.{IsPlain, never_commits}
use Rattle.sqlite.proofs.StateLemmas.{survives_then, survives_weaker}
use Rattle.sqlite_schema.specs.declared.command.Returning.{Returning}
use Rattle.sqlite_resolve.specs.declared.compiled.Compiled.{Compiled}
use Rattle.sqlite.specs.Store.{Ghosts}
use Rattle.sqlite.specs.Held.{Held}
use Rattle.acct_sql_tables.specs.Look.{IsIdle, LooksAtTables}
use Rattle.acct_sql_tables.specs.inner.Looked.{HasSchema, IsKnown, IsIdleBook, IsIdleKnown}
use Rattle.acct_sql_tables.proofs.ReadLemmas.{shown_same}

runs_quiet : (old new : State) (sql : List ℕ) (c : Compiled) (params : Row) (e : Error)
    (r : Option Returning) → FailsToShow old new sql c params e r → IsUnchanged old new
    ⊎ IsRolledBack old new
runs_quiet old new sql c params e None h = inl h.3
runs_quiet old new sql c params e (Some what) (inl refused) = inl refused.1
runs_quiet old new sql c params e (Some what) (inr failed) = inr failed.3

pub query_quiet : (sql : List ℕ) (params : Row) (old new : State) (e : Error)
    → FailsToQuery sql params old new e → IsUnchanged old new ⊎ IsRolledBack old new
unfolding FailsToQuery IsNotRun
query_quiet sql params old new e (inl (inl refused)) = inl refused.1
query_quiet sql params old new e (inl (inr failed)) = inr failed.3
query_quiet sql params old new e (inr h) = runs_quiet old new sql h.0 _ e h.0.returning h.2

-- what was done to the database is nothing, or it was undone
module _ (old new : State) (idle : IsIdle old)
    (quiet : HasCleanDisk new → IsUnchanged old new ⊎ IsRolledBack old new)
    (mode : old.in_transaction ≡ false → new.in_transaction ≡ false)
    (survives : Survives old new (λ _. ⊥)) where
  early : HasCleanDisk new → HasCleanDisk old
  early clean = omega (arith, survives.clean, clean)

  opened : IsTrue new.is_open → IsUnchanged old new ⊎ IsRolledBack old new → IsTrue old.is_open
  opened o (inl same) = same.0.was_open
  opened o (inr rolled) = rolled.was_open o

  settled_by : HasCleanDisk new → IsTrue new.is_open → IsUnchanged old new ⊎ IsRolledBack old new
      → new.now ≡ new.committed
  settled_by clean o (inl same) = same.0.now_is ∙ (idle.settled (early clean) same.0.was_open
      ∙ sym same.0.committed_is)
  settled_by clean o (inr rolled) = (rolled.undone o).0 ∙ sym (rolled.undone o).1

  same_by : HasCleanDisk new → IsTrue new.is_open → IsUnchanged old new ⊎ IsRolledBack old new
      → new.now ≡ old.now
  same_by clean o (inl same) = same.0.now_is
  same_by clean o (inr rolled) = (rolled.undone o).0 ∙ sym
      (idle.settled (early clean) (rolled.was_open o))

  pub looks : LooksAtTables old new
  looks = record {
    idle = record {
      autocommit = mode idle.autocommit;
      settled = λ clean o. settled_by clean o (quiet clean);
    };
    was_open = λ clean o. opened o (quiet clean);
    same = λ clean o. same_by clean o (quiet clean);
    survives = survives;
  }

-- a query with no RETURNING commits nothing
module _ (sql : List ℕ) (params : Row) (old new : State)
    (plain : HasCleanDisk old → IsPlain (understood old.now.schema sql))
    (survives : Survives old new (CommitsShowing sql params old)) where
  pub plain_here : HasCleanDisk new → IsPlain (understood old.now.schema sql)
  plain_here clean = plain (omega (arith, survives.clean, clean))

  pub commits_nothing : Survives old new (λ _. ⊥)
  commits_nothing = survives_weaker old new (CommitsShowing sql params old) (λ _. ⊥)
      (λ clean db commits. never_commits sql params old db (plain_here clean) commits) survives

module _ (sql : List ℕ) (params : Row) (old new : State) {V : Type 0} (items : V → List Row)
    (r : Result V Error) (idle : IsIdle old)
    (plain : HasCleanDisk old → IsPlain (understood old.now.schema sql))
    (ok : HasCleanDisk new → IfOk r (λ rows. Shown sql params old new (items rows)))
    (err : HasCleanDisk new → IfErr r (FailsToQuery sql params old new))
    (mode : old.in_transaction ≡ false → new.in_transaction ≡ false)
    (survives : Survives old new (CommitsShowing sql params old)) where
  quiet_by : HasCleanDisk new → (q : Result V Error) → IfOk q
      (λ rows. Shown sql params old new (items rows)) → IfErr q (FailsToQuery sql params old new)
      → IsUnchanged old new ⊎ IsRolledBack old new
  quiet_by clean (Ok rows) shown failed = inl (shown_same sql params old new (items rows)
      (plain_here sql params old new plain survives clean) shown)
  quiet_by clean (Err e) shown failed = query_quiet sql params old new e failed

  pub peeked : LooksAtTables old new
  peeked = looks old new idle (λ clean. quiet_by clean r (ok clean) (err clean)) mode
      (commits_nothing sql params old new plain survives)

  open_by : HasCleanDisk new → (q : Result V Error) → IfOk q
      (λ rows. Shown sql params old new (items rows)) → OnOk q (IsTrue new.is_open)
  open_by clean (Ok rows) shown = (shown_same sql params old new (items rows)
      (plain_here sql params old new plain survives clean) shown).0.is_open
  open_by clean (Err e) shown = tt

  pub peeked_open : HasCleanDisk new → OnOk r (IsTrue new.is_open)
  peeked_open clean = open_by clean r (ok clean)

-- ---- one read after another

pub looks_then : (a b c : State) → LooksAtTables a b → LooksAtTables b c → LooksAtTables a c
looks_then a b c one two = record {
  idle = two.idle;
  was_open = λ clean o. one.was_open (omega (arith, two.survives.clean, clean))
      (two.was_open clean o);
  same = λ clean o. two.same clean o ∙ one.same (omega (arith, two.survives.clean, clean))
      (two.was_open clean o);
  survives = survives_then a b c (λ _. ⊥) (λ _. ⊥) (λ _. ⊥) (λ _ db none. none) (λ _ db none. none)
      one.survives two.survives;
}

pub has_after : (a b : State) → LooksAtTables a b → HasSchema a → (HasCleanDisk b
    → IsTrue b.is_open) → HasSchema b
has_after a b look has o clean = ap (λ (d : Database). d.schema) (look.same clean (o clean))
    ∙ has (omega (arith, look.survives.clean, clean))

pub known_after : (a b : State) → LooksAtTables a b → (HasCleanDisk a → IsKnown a.now.schema)
    → (HasCleanDisk b → IsTrue b.is_open) → HasCleanDisk b → IsKnown b.now.schema
known_after a b look has o clean = subst (λ (d : Database). IsKnown d.schema)
    (sym (look.same clean (o clean))) (has (omega (arith, look.survives.clean, clean)))

-- a book's tables are among those that are known
pub known_book : {S : Type 0} (g : Ghosts S) (conn : Held S) → IsIdleBook g conn
    → IsIdleKnown g conn
known_book g conn book = record { idle = book.idle; has = λ clean. inl (book.has clean) }

-- ---- why a call was refused

pub blamed : {T E : Type 0} {P Q : E → Type 0} (r : Result T E) → ((e : E) → P e → Q e) → IfErr r P
    → IfErr r Q
blamed (Ok x) f h = tt
blamed (Err e) f h = f e h
