-- What a crash may leave after a call with this effect.
use Rattle.std.proofs.Common.{◌≡◌, ◌⊎◌, inl, inr, List, refl, sym, ap, subst}
use Rattle.acct_model.specs.declared.plan.Plan.{Plan}
use Rattle.acct_model.specs.declared.entry.Entry.{Entry}
use Rattle.acct_model.specs.History.{History}
use Rattle.acct_book.specs.declared.book.Book.{Ghosts}
use Rattle.acct_book.specs.Content.{Content}
use Rattle.acct_book.specs.Effect.{Effect, after_effect, IsTold, added, repeated, differs, limited}
use Rattle.acct_book.specs.Effect.{failed, looked, passed, unasked}
use Rattle.acct_book.specs.Stands.{Stands}
use Rattle.acct_book.specs.Step.{MayAdd, StoodFor, Does}

-- A content that a crash may leave stands for the history after the call. Or the call left the
-- history as it was: a crash could leave the content before, or it has the entry of a failed call.
abbrev pub Leaves : {B : Type 0} → Ghosts B → List Plan → B → B → History → Effect → Type 0
Leaves b plans old new history effect =
    (c : Content) → b.left new c
    → Stands plans c (after_effect history effect)
    ⊎ ((after_effect history effect ≡ history)
    × (b.left old c ⊎ ((asked : Entry) × (effect ≡ failed asked) × MayAdd plans history asked c)))

module _ {B : Type 0} (b : Ghosts B) (plans : List Plan) (old new : B) where
  told_left : (effect : Effect) → Does b plans old new effect → b.is_sound new
      → (history : History) → StoodFor b plans old history → IsTold effect
      → Leaves b plans old new history effect
  told_left effect d sound history stood told c may =
      inl (subst (λ x. Stands plans x (after_effect history effect))
      (sym (d.settled sound told c may)) (d.stands sound history stood (d.answers sound told)))

  pub left_by : (effect : Effect) → Does b plans old new effect → b.is_sound new
      → (history : History) → StoodFor b plans old history
      → Leaves b plans old new history effect
  left_by (added next) d sound history stood c may =
      told_left (added next) d sound history stood tt c may
  left_by (repeated next) d sound history stood c may =
      told_left (repeated next) d sound history stood tt c may
  left_by (differs next kept) d sound history stood c may =
      told_left (differs next kept) d sound history stood tt c may
  left_by (limited next balance) d sound history stood c may =
      told_left (limited next balance) d sound history stood tt c may
  left_by looked d sound history stood c may = told_left looked d sound history stood tt c may
  left_by (failed next) d sound history stood c may =
      inr (
        refl,
        elim (d.leaves sound history stood c may) [
          | inl before ↦ inl before
          | inr (was, (asked, is, adds)) ↦ inr (asked, ap failed (sym is), adds)
        ],
      )
  left_by unasked d sound history stood c may =
      inr (
        refl,
        elim (d.leaves sound history stood c may) [
          | inl before ↦ inl before
          | inr (was, (asked, none, adds)) ↦ absurd none
        ],
      )
  left_by passed d sound history stood c may =
      inr (
        refl,
        elim (d.leaves sound history stood c may) [
          | inl before ↦ inl before
          | inr (was, (asked, none, adds)) ↦ absurd none
        ],
      )
