-- What `record` says at its exits, put together from what the calls of the book say.
use Rattle.std.proofs.Common.{◌≡◌, ◌≢◌, ◌⊎◌, List, ◌∷◌, refl, sym, ap, ◌∙◌, subst, inl, inr, ⊎_elim}
use Rattle.std.specs.Prelude.{Result, Ok, Err, IsErrAnd}
use Rattle.acct_model.specs.declared.plan.Plan.{Plan}
use Rattle.acct_model.specs.declared.entry.Entry.{Entry}
use Rattle.acct_model.specs.declared.entry.Entry.TheVariants as entry
use Rattle.acct_model.specs.Vouchers.{TopUpFacts}
use Rattle.acct_model.specs.History.{Accepted, History}
use Rattle.acct_book.specs.declared.book.Book.{Ghosts}
use Rattle.acct_book.specs.declared.recording.Recorded.{Recorded}
use Rattle.acct_book.specs.declared.recording.Recorded.TheVariants.{New, Repeat}
use Rattle.acct_book.specs.declared.recording.RecordError.{RecordError}
use Rattle.acct_book.specs.declared.recording.RecordError.TheVariants.{VoucherDiffers, BalanceLimit}
use Rattle.acct_book.specs.declared.recording.RecordError.TheVariants.{Unavailable}
use Rattle.acct_book.specs.Content.{Content}
use Rattle.acct_book.specs.Stands.{Stands}
use Rattle.acct_book.specs.inner.Calls.{AddsEntry, RefusesToAdd}
use Rattle.acct_book.specs.Effect.{after_effect, Holds, IsTold, IsOwn, IsUnasked, effect_of, added}
use Rattle.acct_book.specs.Effect.{failed}
use Rattle.acct_book.specs.Step.{Looks, MayAdd, StoodFor, Does}
use Rattle.acct_book.specs.inner.Step.{Puts}
use Rattle.acct_book.proofs.StepLemmas.{Settles, looked_by}

-- an error that can only be this one
pub same_error : {T : Type 0} (r : Result T RecordError) (error : RecordError)
    → IsErrAnd r (λ e. e ≡ error) → r ≡ Err error
same_error (Ok x) error and = absurd and
same_error (Err e) error and = ap Err and

-- the book was not called yet
pub reads_none : {B T E : Type 0} (b : Ghosts B) (book : B) (error : E)
    → Looks {B = B} {T = T} {E = E} b book book (Err error)
reads_none b book error = record {
  was_sound = λ sound. sound;
  was_open = λ still. still;
  keeps_steady = λ steady. steady;
  answers = λ sound. tt;
  same = λ still. refl;
  adds_none = λ sound c may. may;
}

-- a refusal adds nothing
stays : (history : History) (next : Entry) (e : RecordError)
    → after_effect history (effect_of next (Err e)) ≡ history
stays history next (VoucherDiffers kept) = refl
stays history next (BalanceLimit balance) = refl
stays history next Unavailable = refl

told_refusal : (plans : List Plan) (next : Entry) (c : Content) (e : RecordError) (now : Type 0)
    → (e ≢ Unavailable → now) → (now → RefusesToAdd plans next c e) → (history : History)
    → (now → Stands plans c history) → Holds plans history (effect_of next (Err e))
told_refusal plans next c Unavailable now answers refuses history stood = tt
told_refusal plans next c (VoucherDiffers kept) now answers refuses history stood = let still
    = answers (λ is. cc) in refuses still history (stood still)
told_refusal plans next c (BalanceLimit balance) now answers refuses history stood = let still
    = answers (λ is. cc) in refuses still history (stood still)

told_open : (next : Entry) (e : RecordError) (now : Type 0) → (e ≢ Unavailable → now)
    → IsTold (effect_of next (Err e)) → now
told_open next (VoucherDiffers kept) now answers told = answers (λ is. cc)
told_open next (BalanceLimit balance) now answers told = answers (λ is. cc)
told_open next Unavailable now answers told = absurd told

-- any result of recording a top-up
pub topup_own : (topup : TopUpFacts) (result : Result Recorded RecordError)
    → IsOwn (effect_of (entry.TopUp topup) result)
topup_own topup (Ok New) = tt
topup_own topup (Ok Repeat) = tt
topup_own topup (Err (VoucherDiffers kept)) = tt
topup_own topup (Err (BalanceLimit balance)) = tt
topup_own topup (Err Unavailable) = tt

-- recording calls the book
pub asked : (next : Entry) (result : Result Recorded RecordError)
    → IsUnasked (effect_of next result) → ⊥
asked next (Ok New) none = none
asked next (Ok Repeat) none = none
asked next (Err (VoucherDiffers kept)) none = none
asked next (Err (BalanceLimit balance)) none = none
asked next (Err Unavailable) none = none

one_error : {T : Type 0} (r : Result T RecordError) (e f : RecordError) → r ≡ Err e → r ≡ Err f
    → e ≡ f
one_error r e f is also = cc

-- a refusal by the calls that read is returned
pub passed_on : {B T : Type 0} (b : Ghosts B) (plans : List Plan) (next : Entry) (old new : B)
    (r : Result T RecordError) (e : RecordError) (result : Result Recorded RecordError)
    → r ≡ Err e → IsErrAnd result (λ x. x ≡ e) → IsOwn (effect_of next (Err e))
    → Looks b old new r
    → (b.is_sound new → r ≢ Err Unavailable → b.is_open new)
    → (b.is_open new → RefusesToAdd plans next (b.content old) e)
    → Settles b
    → Does b plans old new (effect_of next result)
passed_on b plans next old new r e result is passes own reads answers refuses settled =
    let other : e ≢ Unavailable → r ≢ Err Unavailable = λ told clash. told
    (one_error r e Unavailable is clash) in
    let now : b.is_sound new → e ≢ Unavailable → b.is_open new = λ sound told. answers sound
    (other told) in
    subst (λ x. Does b plans old new (effect_of next x)) (sym (same_error result e passes))
    (looked_by b plans old new (effect_of next (Err e)) r reads own (asked next (Err e))
    (λ history. stays history next e)
    (λ sound. told_open next e (b.is_open new) (now sound))
    (λ sound history stood. told_refusal plans next (b.content old) e (b.is_open new)
    (now sound) refuses history (λ still. stood (reads.was_open still)))
    settled)

-- The whole effect was written, or nothing if the write failed: a crash may leave either.
module _ {B T E F G : Type 0} (b : Ghosts B) (plans : List Plan) (next : Entry) (old mid new : B)
    (r : Result T E) (w : Result F G) (done : Content) (reads : Looks b old mid r)
    (writes : Puts b mid new done w)
    (adds : b.is_open mid → AddsEntry plans next (b.content old) done)
    (settled : Settles b) where
  leaves : b.is_sound new → (history : History) → StoodFor b plans old history
      → (c : Content) → b.left new c
      → b.left old c ⊎ (b.is_open old × MayAdd plans history next c)
  leaves sound history stood c may =
      ⊎_elim (λ before. inl (reads.adds_none (writes.was_sound sound) c before))
      (λ (still, is).
      let was = reads.was_open still in
      let told = adds still history (stood was) in
      inr (was, (told.0, subst (λ x. Stands plans x (Accepted next ∷ history)) (sym is) told.2)))
      (writes.adds_written sound c may)

  pub now_added : (b.is_sound new → b.is_open new) → (b.is_open new → b.content new ≡ done)
      → Does b plans old new (added next)
  now_added now_open put = record {
    own = tt;
    alone = λ none. absurd none;
    was_sound = λ sound. reads.was_sound (writes.was_sound sound);
    was_open = λ still. reads.was_open (writes.was_open still);
    keeps_steady = λ steady. writes.keeps_steady (reads.keeps_steady steady);
    answers = λ sound _. now_open sound;
    settled = λ sound _. settled new (now_open sound);
    unchanged = λ still none. absurd none;
    holds = λ sound history stood.
        let was = writes.was_open (now_open sound) in
        let told = adds was history (stood (reads.was_open was)) in (told.0, told.1);
    stands = λ sound history stood still.
        let was = writes.was_open still in
        subst (λ c. Stands plans c (Accepted next ∷ history)) (sym (put still))
        (adds was history (stood (reads.was_open was))).2;
    leaves = λ sound history stood c may.
        ⊎_elim inl (λ (was, adds_it). inr (was, (next, refl, adds_it)))
        (leaves sound history stood c may);
  }

  pub write_failed : (b.is_open new → b.content new ≡ b.content mid)
      → Does b plans old new (failed next)
  write_failed kept = record {
    own = tt;
    alone = λ none. absurd none;
    was_sound = λ sound. reads.was_sound (writes.was_sound sound);
    was_open = λ still. reads.was_open (writes.was_open still);
    keeps_steady = λ steady. writes.keeps_steady (reads.keeps_steady steady);
    answers = λ sound none. absurd none;
    settled = λ sound none. absurd none;
    unchanged = λ still _. kept still ∙ reads.same (writes.was_open still);
    holds = λ sound history stood. tt;
    stands = λ sound history stood still.
        subst (λ c. Stands plans c history)
        (sym (kept still ∙ reads.same (writes.was_open still)))
        (stood (reads.was_open (writes.was_open still)));
    leaves = λ sound history stood c may.
        ⊎_elim inl (λ (was, adds_it). inr (was, (next, refl, adds_it)))
        (leaves sound history stood c may);
  }
