-- The promise over one run of `serve` on the files of a book, by that of `serve`.
use Rattle.std.proofs.Common.{◌≡◌, ◌∙◌, ◌<◌, ℕ, List, inl, inr, Result, Ok, Err, sym, ap, subst}
use Rattle.std.proofs.Common.{refl}
use Rattle.std.proofs.Math.Logic.{∥∥₁_elim}
use Rattle.std.specs.Prelude.{Bool, Option, None, Some}
use Rattle.sqlite_disk.specs.declared.Disk as disk
use Rattle.sqlite_disk.specs.declared.Files.{Files}
use Rattle.sqlite_wal.specs.Recovery.{Image}
use Rattle.sqlite_store.specs.declared.store.FileStore.{FileStore}
use Rattle.sqlite_trees.specs.Props.{Trees-set}
use Rattle.sqlite.specs.Closing.{HoldsAlone}
use Rattle.sqlite.specs.Effect.{Database}
use Rattle.sqlite.specs.Files.{file_state, over_files}
use Rattle.sqlite.specs.Held.{Held}
use Rattle.acct_book.specs.declared.book.Book as book
use Rattle.acct_book.specs.Stands.{Stands}
use Rattle.acct_site.specs.declared.config.Config.{Config}
use Rattle.acct_sql_tables.specs.Book.{IsBookOver}
use Rattle.acct_sql_tables.specs.Content.{content_in_tables}
use Rattle.acct_service.specs.declared.exchange.Exchange as exchange
use Rattle.acct_service.specs.declared.slices.Until.TheVariants as until
use Rattle.acct_service.specs.Promise.{accepted, AreBalancesDue}
use Rattle.acct_program.specs.declared.status.Status.{Status}
use Rattle.acct_program_args.specs.declared.job.Listening.{Listening}
use Rattle.acct_program_args.specs.declared.job.Serving.{Serving}
use Rattle.acct_program_commands.specs.Checks.{ReadsConfig}
use Rattle.acct_program_commands.specs.Names.{NamesSeen}
use Rattle.acct_program_commands.specs.Puts.{WasPut}
use Rattle.acct_program_commands.specs.declared.fault.Fault.{Fault}
use Rattle.acct_program_serving.specs.Promise.{ServesRightly}
use Rattle.acct_program_serving.specs.Serving.{EndsAfresh, ended_of}
use Rattle.acct_program_serving.specs.declared.ended.Ended.{Ended}
use Rattle.acct_program_serving.specs.declared.ended.Ended.TheVariants as how
use Rattle.acct_program_jobs.specs.declared.left.Left.{Left}
use Rattle.acct_program_jobs.specs.declared.left.Left.TheVariants as left
use Rattle.acct_program_jobs.specs.Commands.{Worked, Closes, FailsAt}
use Rattle.acct_program_jobs.specs.Promise.{Serves, visits_by}
use Rattle.acct_program_jobs.specs.Promise.{RanRightly, ClosedRightly, EndsRightly, FilesAreRight}

no_fault : {A E : Type 0} (done : A) (told : E) → Ok done ≡ Err told → ⊥
no_fault done told is = cc

module _ {D : Type 0} {g : disk.Ghosts D} {X : Type 0} (image : Image)
    (b : book.Ghosts (Held (FileStore D g))) (x : exchange.Ghosts X)
    (IsBound : Listening → X → Type 0)
    (right : ServesRightly b x WasPut IsBound)
    (over : (one : Held (FileStore D g))
    → IsBookOver over_files b.content b.is_sound b.is_open b.left one)
    (printed after : Option (List ℕ)) (file : List ℕ) (seen : Option NamesSeen)
    (serving : Serving) where
  module _ (config : Config) (first last : Held (FileStore D g)) where
    abbrev Afresh : NamesSeen → X → Ended → Type 0
    Afresh names final ended = EndsAfresh b x WasPut (IsBound serving.listening) (Some file) None
        None names serving config first last final printed after ended

    -- a book that is sound in the end was sound as the server began
    begun_sound : (names : NamesSeen) (final : X) (ended : Ended) (it : Afresh names final ended)
        → b.is_sound last → b.is_sound it.begun
    begun_sound names final (how.Told served why) it sound =
        it.ends.0.run.attends.keeps.was_sound sound
    begun_sound names final (how.Untold served why) it sound =
        it.ends.run.attends.keeps.was_sound sound
    begun_sound names final how.NotBegun it sound =
        let same : last ≡ it.begun = it.ends.0 in
        subst (λ (one : Held (FileStore D g)). b.is_sound one) same sound

    was_sound : (result : Result Status Fault)
        → Serves image b x IsBound printed after file seen serving config result first last
        → b.is_sound last → b.is_sound first
    was_sound result (inl (told, is, why, same, unprinted)) sound =
        subst (λ (one : Held (FileStore D g)). b.is_sound one) same sound
    was_sound result (inr (inl (names, was, moved, is, looked, unprinted))) sound =
        looked.was_sound sound
    was_sound result (inr (inr (ended, is, (names, was, (final, it))))) sound =
        it.looked.was_sound (begun_sound names final ended it sound)

    -- after a turn or more that ended well, a sound book is open
    ended_open : (status : Status) (names : NamesSeen) (final : X) (ended : Ended)
        → Ok status ≡ ended_of ended → Afresh names final ended → 0 < serving.turns
        → b.is_sound last → b.is_open last
    ended_open status names final (how.Told served until.AllMade) is it more sound =
        it.ends.0.open_is refl more sound
    ended_open status names final (how.Told served until.Shut) is it more sound =
        absurd (no_fault _ _ is)
    ended_open status names final (how.Told served until.Stuck) is it more sound =
        absurd (no_fault _ _ is)
    ended_open status names final (how.Told served until.Over) is it more sound =
        absurd (no_fault _ _ is)
    ended_open status names final (how.Untold served until.AllMade) is it more sound =
        absurd (no_fault _ _ is)
    ended_open status names final (how.Untold served until.Shut) is it more sound =
        absurd (no_fault _ _ is)
    ended_open status names final (how.Untold served until.Stuck) is it more sound =
        absurd (no_fault _ _ is)
    ended_open status names final (how.Untold served until.Over) is it more sound =
        absurd (no_fault _ _ is)
    ended_open status names final how.NotBegun is it more sound = absurd (no_fault _ _ is)

    is_open : (status : Status)
        → Serves image b x IsBound printed after file seen serving config (Ok status) first last
        → 0 < serving.turns → b.is_sound last → b.is_open last
    is_open status (inl (told, is, why, same, unprinted)) more sound = absurd (no_fault _ _ is)
    is_open status (inr (inl (names, was, moved, is, looked, unprinted))) more sound =
        absurd (no_fault _ _ is)
    is_open status (inr (inr (ended, is, (names, was, (final, it))))) more sound =
        ended_open status names final ended is it more sound

  -- a run from the book that the files held
  ran : (config : Config) (result : Result Status Fault) (last : Held (FileStore D g))
      → Worked image config.plans
      (Serves image b x IsBound printed after file seen serving config result) last
      → RanRightly image b x IsBound printed after file seen serving config result last
  ran config result last worked = record {
    first = worked.first;
    adopted = worked.adopted;
    run = worked.did;
    right = λ before held sound.
        let first = worked.first in
        let clean = (over first).sound_is.0 (was_sound config first last result worked.did sound) in
        let book = worked.adopted clean in
        let same = (over first).content_is
        ∙ ap content_in_tables (∥∥₁_elim held.holds (Trees-set _ _)
        (book.held.holds held.held)) in
        right (Some file) None None seen serving config printed after result first last before
        worked.did
        ((over first).open_is.1 book.settled)
        (subst (λ c. Stands config.plans c before) (sym same) held.stands) sound;
  }

  -- a run whose book was closed into these files
  closed : (config : Config) (ended : Status) (files : Files D)
      → Closes image config.plans (Serves image b x IsBound printed after file seen serving config)
      ended files
      → ClosedRightly image b x IsBound printed after file seen serving config ended files
  closed config ended files closes =
      let last = closes.last in
      let it = ran config (Ok ended) last closes.worked in
      record {
        last = last;
        ran = it;
        written = λ before held more clean next is_next.
            let copied = closes.copied clean in
            let sound = (over last).sound_is.1 copied.was_clean in
            let opened = is_open config it.first last ended it.run more sound in
            let so_far = accepted before (visits_by image b x IsBound printed after file seen
            serving config (Ok ended) it.first last it.run) in
            let same = (over last).content_is
            ∙ ap (λ (d : Database). content_in_tables d.trees) ((over last).open_is.0 opened).1 in
            let right = it.right before held sound in
            let holds : HoldsAlone next (file_state last).committed.trees = elim is_next [
              | inl now ↦ subst (λ i. HoldsAlone i (file_state last).committed.trees) (sym now)
                  copied.seen
              | inr crashed ↦ copied.left next crashed
            ] in
            record {
              book = record {
                held = (file_state last).committed.trees;
                holds = holds.both;
                stands = subst (λ c. Stands config.plans c so_far) same (right.goes_on opened);
              };
              due = subst (λ c. AreBalancesDue config.plans so_far c) same (right.balances opened);
            };
      }

  -- a run that a fault ended
  failed_at : (config : Config) → ReadsConfig file (Ok config)
      → (told : Fault) (rest : Left D g) (ended : Result Status Fault) → ended ≡ Err told
      → FailsAt image config.plans (Serves image b x IsBound printed after file seen serving config)
      told rest → EndsRightly image b x IsBound printed after file seen serving ended rest
  failed_at config read told left.Nothing ended is at = (told, is)
  failed_at config read told (left.Unopened it) ended is at = (told, is)
  failed_at config read told (left.Open last) ended is (inl other) =
      (config, read, told, is, inl other)
  failed_at config read told (left.Open last) ended is (inr worked) =
      (config, read, told, is, inr (ran config (Err told) last worked))
  failed_at config read told (left.Unclosed rest) ended is at = (
    config,
    read,
    record {
      last = at.last;
      ended = at.ended;
      ran = ran config (Ok at.ended) at.last at.worked;
      closed = at.unclosed.1;
    },
  )
  failed_at config read told (left.Closed files) ended is at = absurd at

pub files_right : {D : Type 0} {g : disk.Ghosts D} {X : Type 0} (image : Image)
    (b : book.Ghosts (Held (FileStore D g))) (x : exchange.Ghosts X)
    (IsBound : Listening → X → Type 0)
    → ServesRightly b x WasPut IsBound
    → ((one : Held (FileStore D g))
    → IsBookOver over_files b.content b.is_sound b.is_open b.left one)
    → FilesAreRight image b x IsBound
files_right {D} {g} image b x IsBound right over text printed after file name serving ended rest
    (inl keeps) = (
      None,
      tt,
      subst (EndsRightly image b x IsBound printed after file None serving ended)
          (sym keeps.nothing) (keeps.told, keeps.ended_is),
    )
files_right {D} {g} image b x IsBound right over text printed after file name serving ended rest
    (inr (seen, named, (inl (status, files, is, rest_is, (config, read, closes))))) = (
      seen,
      named,
      subst (EndsRightly image b x IsBound printed after file seen serving ended) (sym rest_is) (
        config,
        read,
        status,
        is,
        closed image b x IsBound right over printed after file seen serving config status files
            closes,
      ),
    )
files_right {D} {g} image b x IsBound right over text printed after file name serving ended rest
    (inr (seen, named, (inr (told, is, (inl none))))) = (
      seen,
      named,
      subst (EndsRightly image b x IsBound printed after file seen serving ended) (sym none.nothing)
          (told, is),
    )
files_right {D} {g} image b x IsBound right over text printed after file name serving ended rest
    (inr (seen, named, (inr (told, is, (inr (config, read, fails)))))) = (
      seen,
      named,
      failed_at image b x IsBound right over printed after file seen serving config read told rest
          ended is fails.at,
    )
