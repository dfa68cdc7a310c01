-- What calls do that write nothing: `unasked_by` and `failed_by` if the book is not called,
-- `looked_by` if it is only read.
use Rattle.std.proofs.Common.{◌≡◌, List, refl, sym, subst, inl}
use Rattle.std.specs.Prelude.{Result}
use Rattle.acct_model.specs.declared.plan.Plan.{Plan}
use Rattle.acct_model.specs.declared.entry.Entry.{Entry}
use Rattle.acct_model.specs.History.{History}
use Rattle.acct_book.specs.declared.book.Book.{Ghosts}
use Rattle.acct_book.specs.Book.{Only}
use Rattle.acct_book.specs.Content.{Content}
use Rattle.acct_book.specs.Stands.{Stands}
use Rattle.acct_book.specs.Effect.{Effect, after_effect, Holds, IsTold, IsOwn, IsUnasked, failed}
use Rattle.acct_book.specs.Effect.{unasked}
use Rattle.acct_book.specs.Step.{Looks, StoodFor, Does}

-- the trait's law: a crash leaves the content of an open book and nothing else
abbrev pub Settles : {B : Type 0} → Ghosts B → Type 0
Settles {B} b = (book : B) → b.is_open book → Only (b.content book) (b.left book)

-- no entry was requested
pub unasked_by : {B : Type 0} (b : Ghosts B) (plans : List Plan) (book : B)
    → Does b plans book book unasked
unasked_by b plans book = record {
  own = tt;
  alone = λ none. refl;
  was_sound = λ sound. sound;
  was_open = λ still. still;
  keeps_steady = λ steady. steady;
  answers = λ sound told. absurd told;
  settled = λ sound told. absurd told;
  unchanged = λ still other. refl;
  holds = λ sound history stood. tt;
  stands = λ sound history stood. stood;
  leaves = λ sound history stood c may. inl may;
}

-- an entry was requested, and memory ran out
pub failed_by : {B : Type 0} (b : Ghosts B) (plans : List Plan) (book : B) (asked : Entry)
    → Does b plans book book (failed asked)
failed_by b plans book asked = record {
  own = tt;
  alone = λ none. absurd none;
  was_sound = λ sound. sound;
  was_open = λ still. still;
  keeps_steady = λ steady. steady;
  answers = λ sound told. absurd told;
  settled = λ sound told. absurd told;
  unchanged = λ still other. refl;
  holds = λ sound history stood. tt;
  stands = λ sound history stood. stood;
  leaves = λ sound history stood c may. inl may;
}

-- nothing was written
pub only_looked_by : {B : Type 0} (b : Ghosts B) (plans : List Plan) (old new : B) (effect : Effect)
    → (b.is_sound new → b.is_sound old) → (b.is_open new → b.is_open old)
    → (b.is_steady old → b.is_steady new) → (b.is_open new → b.content new ≡ b.content old)
    → (b.is_sound new → (c : Content) → b.left new c → b.left old c)
    → IsOwn effect → (IsUnasked effect → ⊥)
    → ((history : History) → after_effect history effect ≡ history)
    → (b.is_sound new → IsTold effect → b.is_open new)
    → (b.is_sound new → (history : History) → StoodFor b plans old history
    → Holds plans history effect)
    → Settles b
    → Does b plans old new effect
only_looked_by b plans old new effect was_sound was_open keeps_steady same adds_none own asked
    stays answers holds settled = record {
      own = own;
      alone = λ none. absurd (asked none);
      was_sound = was_sound;
      was_open = was_open;
      keeps_steady = keeps_steady;
      answers = answers;
      settled = λ sound told. settled new (answers sound told);
      unchanged = λ still _. same still;
      holds = holds;
      stands = λ sound history stood.
          subst (StoodFor b plans new) (sym (stays history))
          (λ still. subst (λ c. Stands plans c history) (sym (same still))
          (stood (was_open still)));
      leaves = λ sound history stood c may. inl (adds_none sound c may);
    }

-- one call read
pub looked_by : {B T E : Type 0} (b : Ghosts B) (plans : List Plan) (old new : B) (effect : Effect)
    (r : Result T E)
    → Looks b old new r → IsOwn effect → (IsUnasked effect → ⊥)
    → ((history : History) → after_effect history effect ≡ history)
    → (b.is_sound new → IsTold effect → b.is_open new)
    → (b.is_sound new → (history : History) → StoodFor b plans old history
    → Holds plans history effect)
    → Settles b
    → Does b plans old new effect
looked_by b plans old new effect r reads =
    only_looked_by b plans old new effect reads.was_sound reads.was_open reads.keeps_steady
    reads.same reads.adds_none
