-- What is found in the files of a book, and what is left of them.
use Rattle.std.proofs.Common.{◌≡◌, ◌⊎◌, inl, inr, IsTrue, sym, subst, arith}
use Rattle.sqlite_disk.specs.declared.Disk.{Ghosts}
use Rattle.sqlite_wal.specs.Recovery.{Image}
use Rattle.sqlite_wal.proofs.LogLemmas.{SeenMayStay}
use Rattle.sqlite_trees.specs.Tree.{Trees}
use Rattle.sqlite_store.specs.declared.store.FileStore.{FileStore}
use Rattle.sqlite_store.specs.Laws.{settled_at}
use Rattle.sqlite.specs.Effect.{Database}
use Rattle.sqlite.specs.Held.{Held}
use Rattle.sqlite.specs.State.{HasCleanDisk, Survives}
use Rattle.sqlite.specs.Files.{file_state}
use Rattle.acct_sql_tables.specs.Look.{LooksAtTables}
use Rattle.acct_program_jobs.specs.Files.{AreHeldIn, WasHeldIn, HoldsStill}
use Rattle.acct_program_jobs.specs.inner.Files.{IsOpenedOn}

module _ {D : Type 0} {g : Ghosts D} where
  module _ (image : Image) (first : Held (FileStore D g)) (found : IsOpenedOn image first) where
    -- what an open finds is what the files held
    pub was_held : HasCleanDisk (file_state first) → WasHeldIn image (file_state first).now
    was_held clean =
        let it = found clean in
        let held : AreHeldIn image (file_state first).committed.trees =
        record { holds = it.1.holds; found = it.1.reads } in
        record {
          sound = (it.0.1 it.0.0.is_open).0;
          trees = subst (λ (d : Database). AreHeldIn image d.trees) (sym it.0.0.clean) held;
        }

    -- a crash right after it leaves that
    pub may_leave_held : SeenMayStay g → HasCleanDisk (file_state first) → (db : Trees)
        → (file_state first).may_leave db → AreHeldIn image db
    may_leave_held stays clean db may =
        let it = found clean in
        let is : db ≡ (file_state first).committed.trees =
        settled_at first.store stays db it.0.0.is_open may in
        subst (AreHeldIn image) (sym is) (record { holds = it.1.holds; found = it.1.reads })

    -- what survives a change that failed: a read returns what was held, and a crash leaves that, or
    -- what the change commits
    module _ (last : Held (FileStore D g)) (Commits : Trees → Type 0)
        (survives : Survives (file_state first) (file_state last) Commits) where
      pub held_before : HasCleanDisk (file_state last) → WasHeldIn image (file_state first).now
      held_before clean = was_held (omega (arith, survives.clean, clean))

      pub reads_as_before : (HasCleanDisk (file_state last) → IsTrue (file_state last).is_open
          → (file_state last).now ≡ (file_state first).now) → HasCleanDisk (file_state last)
          → IsTrue (file_state last).is_open → AreHeldIn image (file_state last).now.trees
      reads_as_before same clean is_open = subst (λ (d : Database). AreHeldIn image d.trees)
          (sym (same clean is_open)) (held_before clean).trees

      pub leaves_old_or_new : SeenMayStay g → HasCleanDisk (file_state last) → (db : Trees)
          → (file_state last).may_leave db → AreHeldIn image db ⊎ Commits db
      leaves_old_or_new stays clean db may = elim (survives.crash clean db may) [
        | inl old ↦ inl (may_leave_held stays (omega (arith, survives.clean, clean)) db old)
        | inr new ↦ inr new
      ]

    module _ (last : Held (FileStore D g))
        (looks : LooksAtTables (file_state first) (file_state last)) where
      pub was_clean : HasCleanDisk (file_state last) → HasCleanDisk (file_state first)
      was_clean clean = omega (arith, looks.survives.clean, clean)

      pub reads_held : HasCleanDisk (file_state last) → IsTrue (file_state last).is_open
          → AreHeldIn image (file_state last).now.trees
      reads_held clean is_open = subst (λ (d : Database). AreHeldIn image d.trees)
          (sym (looks.same clean is_open)) (was_held (was_clean clean)).trees

      -- a connection that only read leaves the files as they were
      pub holds_still : SeenMayStay g → HoldsStill image last
      holds_still stays = record {
        reads = reads_held;
        leaves = λ clean db may. elim (looks.survives.crash clean db may) [
          | inl old ↦ may_leave_held stays (was_clean clean) db old
          | inr none ↦ absurd none
        ];
      }
