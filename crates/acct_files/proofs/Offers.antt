-- What `record` returns for a voucher, as what a record of an import did.
use Rattle.std.proofs.Common.{◌≡◌, ◌+◌, ℕ, inl, inr, List, Option, Some, None, Result, Ok, Err}
use Rattle.std.proofs.Common.{refl, sym, ◌∙◌, subst, arith}
use Rattle.std.specs.Prelude.{◌≢◌, IsTrue}
use Rattle.acct_model.specs.declared.plan.Plan.{Plan}
use Rattle.acct_model.specs.declared.entry.Entry.{Entry}
use Rattle.acct_model.specs.declared.entry.Entry.TheVariants.{TopUp}
use Rattle.acct_model.specs.Vouchers.{TopUpFacts}
use Rattle.acct_model.specs.History.{History}
use Rattle.acct_book.specs.declared.book.Book.{Ghosts}
use Rattle.acct_book.specs.declared.recording.Recorded.{Recorded}
use Rattle.acct_book.specs.declared.recording.Recorded.TheVariants.{New, Repeat}
use Rattle.acct_book.specs.declared.recording.RecordError.{RecordError}
use Rattle.acct_book.specs.declared.recording.RecordError.TheVariants.{VoucherDiffers, BalanceLimit}
use Rattle.acct_book.specs.declared.recording.RecordError.TheVariants.{Unavailable}
use Rattle.acct_book.specs.Effect.{Effect, added, repeated, differs, limited, failed}
use Rattle.acct_book.specs.Effect.{unasked}
use Rattle.acct_book.specs.Effect.{after_effect, effect_of}
use Rattle.acct_book.specs.Stands.{Stands}
use Rattle.acct_book.specs.Step.{MayAdd, StoodFor, Does}
use Rattle.acct_book.proofs.Crashes.{left_by}
use Rattle.acct_book.proofs.StepLemmas.{unasked_by}
use Rattle.acct_files.specs.declared.import_report.Stopped.{Stopped}
use Rattle.acct_files.specs.declared.import_report.Stopped.TheVariants as stop
use Rattle.acct_files.specs.declared.import_report.Cause.{Cause}
use Rattle.acct_files.specs.declared.import_report.Cause.TheVariants as cause
use Rattle.acct_files.specs.declared.import_report.Outcome.{Outcome}
use Rattle.acct_files.specs.declared.import_report.Outcome.TheVariants.{Added, Repeated, Refused}
use Rattle.acct_files.specs.declared.voucher_record.Fault.{Fault}
use Rattle.acct_files.specs.declared.voucher_record.Fault.TheVariants as fault
use Rattle.acct_files.specs.Vouchers.{Fields, IsLineFault, asked_by}
use Rattle.acct_files.specs.Importing.{Becomes, KeepsOpen, Moves}
use Rattle.acct_files.specs.inner.Importing.{Did, added_by, refused_by}
use Rattle.acct_files.specs.inner.Importing.{stop_of}
use Rattle.acct_files.specs.Importing.{is_refused}
use Rattle.acct_files.specs.inner.Importing.{told_by}

-- ---- which effect a record has

-- an outcome is never that of a call that failed
never_failed : (wanted : Result TopUpFacts Cause) (outcome : Outcome) (asked : Entry)
    → Becomes wanted outcome (failed asked) → ⊥
never_failed (Ok topup) Added asked is = let clash : failed asked ≡ added (TopUp topup) = is in cc
never_failed (Ok topup) Repeated asked is =
    let clash : failed asked ≡ repeated (TopUp topup) = is in cc
never_failed (Ok topup) (Refused cause.VoucherDiffers) asked (kept, is) =
    let clash : failed asked ≡ differs (TopUp topup) kept = is in cc
never_failed (Ok topup) (Refused cause.BalanceLimit) asked (balance, is) =
    let clash : failed asked ≡ limited (TopUp topup) balance = is in cc
never_failed (Ok topup) (Refused other) asked none = absurd none
never_failed (Err c) Added asked none = absurd none
never_failed (Err c) Repeated asked none = absurd none
never_failed (Err c) (Refused told) asked (same, is) =
    let clash : failed asked ≡ unasked = is in cc

-- a refused record adds nothing
pub refused_stays : (history : History) (wanted : Result TopUpFacts Cause) (outcome : Outcome)
    (effect : Effect) → IsTrue (is_refused outcome) → Becomes wanted outcome effect
    → after_effect history effect ≡ history
refused_stays history (Ok topup) Added effect t is = absurd (cc t)
refused_stays history (Ok topup) Repeated effect t is = absurd (cc t)
refused_stays history (Ok topup) (Refused cause.VoucherDiffers) effect t (kept, is) =
    subst (λ e. after_effect history e ≡ history) (sym is) refl
refused_stays history (Ok topup) (Refused cause.BalanceLimit) effect t (balance, is) =
    subst (λ e. after_effect history e ≡ history) (sym is) refl
refused_stays history (Ok topup) (Refused other) effect t none = absurd none
refused_stays history (Err c) Added effect t is = absurd is
refused_stays history (Err c) Repeated effect t is = absurd is
refused_stays history (Err c) (Refused told) effect t (same, is) =
    subst (λ e. after_effect history e ≡ history) (sym is) refl

recorded_becomes : (moment : ℕ) (fields : Fields) (topup : TopUpFacts)
    (result : Result Recorded RecordError) → asked_by moment fields ≡ Ok topup
    → Did moment fields (told_by result) (effect_of (TopUp topup) result)
recorded_becomes moment fields topup (Ok New) asked =
    subst (λ w. Becomes w Added (added (TopUp topup))) (sym asked) refl
recorded_becomes moment fields topup (Ok Repeat) asked =
    subst (λ w. Becomes w Repeated (repeated (TopUp topup))) (sym asked) refl
recorded_becomes moment fields topup (Err (VoucherDiffers kept)) asked =
    subst (λ w. Becomes w (Refused cause.VoucherDiffers) (differs (TopUp topup) kept)) (sym asked)
    (kept, refl)
recorded_becomes moment fields topup (Err (BalanceLimit balance)) asked =
    subst (λ w. Becomes w (Refused cause.BalanceLimit) (limited (TopUp topup) balance)) (sym asked)
    (balance, refl)
recorded_becomes moment fields topup (Err Unavailable) asked = (topup, asked, refl)

module _ {B : Type 0} (b : Ghosts B) (plans : List Plan) where
  pub offered : (moment : ℕ) (fields : Fields) (topup : TopUpFacts)
      (result : Result Recorded RecordError) (old new : B)
      → asked_by moment fields ≡ Ok topup
      → Does b plans old new (effect_of (TopUp topup) result)
      → (effect : Effect) × Did moment fields (told_by result) effect × Does b plans old new effect
  offered moment fields topup result old new asked does =
      (effect_of (TopUp topup) result, recorded_becomes moment fields topup result asked, does)

  pub faulted : (moment : ℕ) (fields : Fields) (f : Fault) (book : B)
      → IsLineFault f (asked_by moment fields)
      → (effect : Effect) × Did moment fields (refused_by f) effect × Does b plans book book effect
  faulted moment fields (fault.Refused c) book is = (
    unasked,
    subst (λ w. Becomes w (Refused c) unasked) (sym is) (refl, refl),
    unasked_by b plans book,
  )
  faulted moment fields fault.Memory book is = (unasked, refl, unasked_by b plans book)

  -- ---- how the book moves

  -- a call that touched nothing
  pub stayed : (history : History) (book : B) → StoodFor b plans book history
      → Moves b plans history history None book book
  stayed history book stands = record { stands = stands; leaves = λ stood c l. stood c l }

  -- an effect whose call didn't fail
  moved : (history : History) (old new : B) (effect : Effect)
      → ((asked : Entry) → effect ≡ failed asked → ⊥) → Does b plans old new effect
      → b.is_sound new → StoodFor b plans old history
      → Moves b plans history (after_effect history effect) None old new
  moved history old new effect none does sound stood = record {
    stands = does.stands sound history stood;
    leaves = λ only c may. elim (left_by b plans old new effect does sound history stood c may) [
      | inl stands ↦ stands
      | inr (same, inl before) ↦ subst (Stands plans c) (sym same) (only c before)
      | inr (same, inr (asked, is, adds)) ↦ absurd (none asked is)
    ];
  }

  pub moved_on : (history : History) (old new : B) (moment : ℕ) (fields : Fields)
      (outcome : Outcome) (effect : Effect) → Did moment fields (Ok outcome) effect
      → Does b plans old new effect → b.is_sound new → StoodFor b plans old history
      → Moves b plans history (after_effect history effect) None old new
  moved_on history old new moment fields outcome effect did does sound stood =
      moved history old new effect
      (λ asked is. never_failed (asked_by moment fields) outcome asked
      (subst (Becomes (asked_by moment fields) outcome) is did)) does sound stood

  pub moved_muted : (history : History) (old new : B) (effect : Effect) → effect ≡ unasked
      → Does b plans old new effect → b.is_sound new → StoodFor b plans old history
      → Moves b plans history history None old new
  moved_muted history old new effect is does sound stood =
      moved history old new unasked (λ asked e. cc) (subst (Does b plans old new) is does)
      sound stood

  pub moved_failed : (history : History) (old new : B) (topup : TopUpFacts) (effect : Effect)
      → effect ≡ failed (TopUp topup) → Does b plans old new effect → b.is_sound new
      → StoodFor b plans old history
      → Moves b plans history history (Some topup) old new
  moved_failed history old new topup effect is does sound stood =
      let failed_it = subst (Does b plans old new) is does in
      record {
        stands = failed_it.stands sound history stood;
        leaves = λ only c may. elim (failed_it.leaves sound history stood c may) [
          | inl before ↦ inl (only c before)
          | inr (was, (asked, same, adds)) ↦
              inr (subst (λ e. MayAdd plans history e c) same adds)
        ];
      }

module _ {B : Type 0} (b : Ghosts B) where
  kept_as : (stopped : Option Stopped) (n : ℕ) (old new : B) → (b.is_sound new → b.is_sound old)
      → (b.is_open new → b.is_open old) → (b.is_steady old → b.is_steady new)
      → (b.is_sound new → stopped ≢ Some stop.Unavailable → b.is_open new)
      → (b.is_open new → n ≡ 0 → b.content new ≡ b.content old)
      → KeepsOpen b stopped n old new
  kept_as stopped n old new sound opens steady answers unchanged =
      record {
        was_sound = sound;
        was_open = opens;
        keeps_steady = steady;
        stays_open = λ s other was. answers s other;
        unchanged = unchanged;
      }

  pub offer_keeps : (plans : List Plan) (topup : TopUpFacts) (result : Result Recorded RecordError)
      (old new : B) → Does b plans old new (effect_of (TopUp topup) result)
      → KeepsOpen b (stop_of (told_by result)) (added_by (told_by result)) old new
  offer_keeps plans topup (Ok New) old new d =
      kept_as _ _ old new d.was_sound d.was_open d.keeps_steady (λ s other. d.answers s tt)
      (λ o none. absurd (cc none))
  offer_keeps plans topup (Ok Repeat) old new d =
      kept_as _ _ old new d.was_sound d.was_open d.keeps_steady (λ s other. d.answers s tt)
      (λ o none. d.unchanged o tt)
  offer_keeps plans topup (Err (VoucherDiffers kept)) old new d =
      kept_as _ _ old new d.was_sound d.was_open d.keeps_steady (λ s other. d.answers s tt)
      (λ o none. d.unchanged o tt)
  offer_keeps plans topup (Err (BalanceLimit balance)) old new d =
      kept_as _ _ old new d.was_sound d.was_open d.keeps_steady (λ s other. d.answers s tt)
      (λ o none. d.unchanged o tt)
  offer_keeps plans topup (Err Unavailable) old new d =
      kept_as _ _ old new d.was_sound d.was_open d.keeps_steady (λ s other. absurd (other refl))
      (λ o none. d.unchanged o tt)

  -- calls after calls
  pub keeps_then : (stopped : Option Stopped) (first second total : ℕ) (old mid new : B)
      → KeepsOpen b None first old mid → KeepsOpen b stopped second mid new → total ≡ first + second
      → KeepsOpen b stopped total old new
  keeps_then stopped first second total old mid new one two sums = record {
    was_sound = λ s. one.was_sound (two.was_sound s);
    was_open = λ o. one.was_open (two.was_open o);
    keeps_steady = λ s. two.keeps_steady (one.keeps_steady s);
    stays_open = λ s other o. two.stays_open s other (one.stays_open (two.was_sound s) (λ e. cc) o);
    unchanged = λ o none. two.unchanged o (omega (arith, none, sums))
        ∙ one.unchanged (two.was_open o) (omega (arith, none, sums));
  }
