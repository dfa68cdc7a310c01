-- How a command ended that a fault ended.
use Rattle.std.proofs.Common.{◌≡◌, ◌≢◌, ℕ, List, inl, inr, Result, Ok, Err, IfOk, IfErr, sym, subst}
use Rattle.sqlite_disk.specs.declared.Disk as disk
use Rattle.sqlite_disk.specs.declared.Files.{Files}
use Rattle.sqlite_wal.specs.Recovery.{Image}
use Rattle.sqlite_store.specs.declared.store.FileStore.{FileStore}
use Rattle.sqlite.specs.Held.{Held}
use Rattle.acct_model.specs.declared.plan.Plan.{Plan}
use Rattle.acct_book.specs.declared.book.Book as book
use Rattle.acct_site.specs.declared.config.Config.{Config}
use Rattle.acct_program.specs.declared.status.Status.{Status}
use Rattle.acct_program.specs.declared.status.Status.TheVariants as status
use Rattle.acct_program_commands.specs.Checks.{ReadsConfig}
use Rattle.acct_program_commands.specs.declared.fault.Fault.{Fault}
use Rattle.acct_program_jobs.specs.declared.left.Left.{Left}
use Rattle.acct_program_jobs.specs.declared.left.Left.TheVariants as left
use Rattle.acct_program_jobs.specs.Files.{IsRefused, IsUnclosed, Copies, IsUnread}
use Rattle.acct_program_jobs.specs.Files.{IsUnlisted}
use Rattle.acct_program_jobs.specs.Commands.{Worked, Closes, Fails, FailsToExport, IsNotClosed}
use Rattle.acct_program_jobs.specs.Jobs.{ClosesOrFails, FailsAtWork, AreUntold}

-- a command that is done has no bad command line
pub done_well : (ended : Result Status Fault) → IfOk ended (λ s. s ≡ status.Done)
    → IfOk ended (λ s. s ≢ status.BadCommandLine)
done_well (Ok s) done = λ bad. cc
done_well (Err told) done = tt

-- what holds anyway holds if a command ended well
pub however_it_ended : {A E : Type 0} (P : Type 0) → P → (result : Result A E)
    → IfOk result (λ done. P)
however_it_ended P holds (Ok done) = holds
however_it_ended P holds (Err told) = tt

-- what holds with one configuration that was read holds with some
pub with_config : {A E : Type 0} (IsHere : Config → Type 0) (P : Config → A → Type 0)
    (config : Config) → IsHere config → (result : Result A E) → IfOk result (P config)
    → IfOk result (λ done. (some : Config) × IsHere some × P some done)
with_config IsHere P config here (Ok done) h = (config, here, h)
with_config IsHere P config here (Err e) h = tt

module _ {D : Type 0} {g : disk.Ghosts D} where
  -- how a command that closes its book ended
  pub ended_so : (Closed : Status → Files D → Type 0) (Failed : Fault → Left D g → Type 0)
      (ending : Result (Status × Files D) (Fault × Left D g)) (ended : Result Status Fault)
      (rest : Left D g)
      → IfOk ending (λ done. (ended ≡ Ok done.0) × (rest ≡ left.Closed done.1))
      → IfErr ending (λ e. (ended ≡ Err e.0) × (rest ≡ e.1))
      → IfOk ending (λ done. Closed done.0 done.1) → IfErr ending (λ e. Failed e.0 e.1)
      → ClosesOrFails Closed Failed ended rest
  ended_so Closed Failed (Ok done) ended rest ok err closed failed =
      inl (done.0, done.1, ok.0, ok.1, closed)
  ended_so Closed Failed (Err e) ended rest ok err closed failed =
      inr (e.0, err.0, subst (Failed e.0) (sym err.1) failed)

module _ {D : Type 0} {g : disk.Ghosts D} where
  -- its status is that of its work
  pub status_if : (P : Status → Type 0) (last : Held (FileStore D g))
      (ended : Result Status Fault) → IfOk ended P
      → (result : Result (Status × Files D) (Fault × Left D g))
      → IfOk result (λ done. (ended ≡ Ok done.0) × Copies last done.1)
      → IfOk result (λ done. P done.0)
  status_if P last ended is (Ok done) h = subst (λ it. IfOk it P) h.0 is
  status_if P last ended is (Err e) h = tt

module _ {D : Type 0} {g : disk.Ghosts D} (image : Image) (plans : List Plan) where
  module _ (Did : Result Status Fault → Held (FileStore D g) → Held (FileStore D g) → Type 0) where
    -- a book that was not adopted ends a command
    pub refused_fails : (told : Fault) (rest : Left D g) → IsRefused image plans told rest
        → Fails image plans Did told rest
    refused_fails told left.Nothing h = record { at = h }
    refused_fails told (left.Unopened it) h = record { at = h }
    refused_fails told (left.Open last) h = record { at = inl h }
    refused_fails told (left.Unclosed it) h = absurd h
    refused_fails told (left.Closed files) h = absurd h

    -- so does a fault of its own, with the book open still
    pub failed_at_work : (told : Fault) (last : Held (FileStore D g))
        → Worked image plans (Did (Err told)) last → Fails image plans Did told (left.Open last)
    failed_at_work told last worked = record { at = inr worked }

    -- and so does a book that was not closed
    pub unclosed_fails : (last : Held (FileStore D g)) (ended : Status)
        → Worked image plans (Did (Ok ended)) last → (told : Fault) (rest : Left D g)
        → IsUnclosed last told rest → Fails image plans Did told rest
    unclosed_fails last ended worked told left.Nothing h = absurd h
    unclosed_fails last ended worked told (left.Unopened it) h = absurd h
    unclosed_fails last ended worked told (left.Open other) h = absurd h
    unclosed_fails last ended worked told (left.Unclosed it) h =
        record { at = record { last = last; unclosed = h; ended = ended; worked = worked } }
    unclosed_fails last ended worked told (left.Closed files) h = absurd h

    -- a book that was closed after its work
    pub closes_if : (last : Held (FileStore D g)) (ended : Result Status Fault)
        → Worked image plans (Did ended) last
        → (result : Result (Status × Files D) (Fault × Left D g))
        → IfOk result (λ done. (ended ≡ Ok done.0) × Copies last done.1)
        → IfOk result (λ done. Closes image plans Did done.0 done.1)
    closes_if last ended worked (Ok done) h = record {
      last = last;
      copied = h.1;
      worked = subst (λ it. Worked image plans (Did it) last) h.0 worked;
    }
    closes_if last ended worked (Err e) h = tt

    -- or was not
    pub fails_if : (last : Held (FileStore D g)) (ended : Result Status Fault)
        → Worked image plans (Did ended) last
        → (result : Result (Status × Files D) (Fault × Left D g))
        → IfErr result (λ e. IsNotClosed ended last e.0 e.1)
        → IfErr result (λ e. Fails image plans Did e.0 e.1)
    fails_if last ended worked (Ok done) h = tt
    fails_if last (Ok status) worked (Err e) h =
        unclosed_fails last status worked e.0 e.1 h
    fails_if last (Err fault) worked (Err e) h = rw (h.0, h.1) (failed_at_work fault last worked)

  -- the first for an export
  pub refused_unexported : (b : book.Ghosts (Held (FileStore D g))) (told : Fault) (rest : Left D g)
      → IsRefused image plans told rest → FailsToExport b image plans told rest
  refused_unexported b told left.Nothing h = h
  refused_unexported b told (left.Unopened it) h = h
  refused_unexported b told (left.Open last) h = inl h
  refused_unexported b told (left.Unclosed it) h = absurd h
  refused_unexported b told (left.Closed files) h = absurd h

module _ {D : Type 0} {g : disk.Ghosts D} (image : Image) (file : List ℕ)
    (Did : Config → Result Status Fault → Held (FileStore D g) → Held (FileStore D g) → Type 0)
  where
    -- a command that a fault ended by one configuration that was read was ended by some
    pub fails_by : (config : Config) → ReadsConfig file (Ok config)
        → (result : Result (Status × Files D) (Fault × Left D g))
        → IfErr result (λ e. Fails image config.plans (Did config) e.0 e.1)
        → IfErr result (λ e. FailsAtWork image file Did e.0 e.1)
    fails_by config read (Ok done) h = tt
    fails_by config read (Err e) h = inr (config, read, h)

-- ---- files that were not opened

module _ {D : Type 0} {g : disk.Ghosts D} (image : Image) where
  -- what was not opened was not adopted, or listed
  pub unread_refused : (plans : List Plan) (told : Fault) (rest : Left D g)
      → IsUnread image told rest → IsRefused image plans told rest
  unread_refused plans told left.Nothing h = inl h
  unread_refused plans told (left.Unopened it) h = h
  unread_refused plans told (left.Open last) h = absurd h
  unread_refused plans told (left.Unclosed it) h = absurd h
  unread_refused plans told (left.Closed files) h = absurd h

  pub unread_unlisted : (told : Fault) (rest : Left D g) → IsUnread image told rest
      → IsUnlisted image told rest
  unread_unlisted told left.Nothing h = inl h
  unread_unlisted told (left.Unopened it) h = h
  unread_unlisted told (left.Open last) h = absurd h
  unread_unlisted told (left.Unclosed it) h = absurd h
  unread_unlisted told (left.Closed files) h = absurd h

  -- plans that were not listed were not written
  pub unlisted_untold : (file : List ℕ) (told : Fault) (rest : Left D g)
      → IsUnlisted image told rest → AreUntold image file told rest
  unlisted_untold file told left.Nothing h = h
  unlisted_untold file told (left.Unopened it) h = h
  unlisted_untold file told (left.Open last) h = inl h
  unlisted_untold file told (left.Unclosed it) h = absurd h
  unlisted_untold file told (left.Closed files) h = absurd h
