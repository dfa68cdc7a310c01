-- What a call does to its book, by its effect: a step from history to history.
use Rattle.std.specs.Prelude.{◌≡◌, ◌⊎◌, List, ◌∷◌, Result}
use Rattle.acct_model.specs.declared.plan.Plan.{Plan}
use Rattle.acct_model.specs.declared.entry.Entry.{Entry}
use Rattle.acct_model.specs.History.{Accepted, History, Admissible}
use Rattle.acct_book.specs.declared.book.Book.{Ghosts}
use Rattle.acct_book.specs.Book.{Only, Reads}
use Rattle.acct_book.specs.Content.{Content}
use Rattle.acct_book.specs.Stands.{Stands}
use Rattle.acct_book.specs.Effect.{Effect, after_effect, Holds, IsTold, IsNotAdded, Tries}
use Rattle.acct_book.specs.Effect.{IsOwn, IsUnasked}

-- a call of the book that reads, and one that writes this content
abbrev pub Looks : {B T E : Type 0} → Ghosts B → B → B → Result T E → Type 0
Looks b old new result =
    Reads b.content b.is_sound b.is_open b.is_steady b.left old new result

-- Calls that only read, with any results: what holds of a book before and after them.
pub record OnlyLooks {B : Type 0} (b : Ghosts B) (old new : B) : Type 0 where
  pub was_sound : b.is_sound new → b.is_sound old
  pub was_open : b.is_open new → b.is_open old
  pub keeps_steady : b.is_steady old → b.is_steady new
  pub same : b.is_open new → b.content new ≡ b.content old
  pub adds_none : b.is_sound new → (c : Content) → b.left new c → b.left old c

-- the entry may be accepted, and the content stands for the history with it
abbrev pub MayAdd : List Plan → History → Entry → Content → Type 0
MayAdd plans history next content =
    Admissible plans history next × Stands plans content (Accepted next ∷ history)

-- The content stands for the history, unless the book was shut and returns none.
abbrev pub StoodFor : {B : Type 0} → Ghosts B → List Plan → B → History → Type 0
StoodFor b plans book history = b.is_open book → Stands plans (b.content book) history

-- A call over a book with this effect, from any history that the content stood for.
pub record Does {B : Type 0} (b : Ghosts B) (plans : List Plan) (old new : B) (effect : Effect)
    : Type 0 where
  pub own : IsOwn effect
  pub alone : IsUnasked effect → new ≡ old
  pub was_sound : b.is_sound new → b.is_sound old
  pub was_open : b.is_open new → b.is_open old
  pub keeps_steady : b.is_steady old → b.is_steady new
  -- a book that returned something is open, and a crash leaves its content and nothing else
  pub answers : b.is_sound new → IsTold effect → b.is_open new
  pub settled : b.is_sound new → IsTold effect → Only (b.content new) (b.left new)
  pub unchanged : b.is_open new → IsNotAdded effect → b.content new ≡ b.content old
  -- the effect is true of the history, and the content stands for the history after it
  pub holds : b.is_sound new → (history : History) → StoodFor b plans old history
      → Holds plans history effect
  pub stands : b.is_sound new → (history : History) → StoodFor b plans old history
      → StoodFor b plans new (after_effect history effect)
  -- a crash leaves what it could before, or that with the whole entry that was added or failed
  pub leaves : b.is_sound new → (history : History) → StoodFor b plans old history
      → (c : Content) → b.left new c
      → b.left old c
      ⊎ (b.is_open old × ((asked : Entry) × Tries effect asked × MayAdd plans history asked c))
