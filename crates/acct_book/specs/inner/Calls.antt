-- What the calls of a book do with an entry, for any history that the content stands for.
use Rattle.std.specs.Prelude.{List, ◌∷◌, Err}
use Rattle.acct_model.specs.declared.plan.Plan.{Plan}
use Rattle.acct_model.specs.declared.entry.Entry.{Entry}
use Rattle.acct_model.specs.History.{Accepted, History, Admissible}
use Rattle.acct_book.specs.declared.recording.RecordError.{RecordError}
use Rattle.acct_book.specs.Content.{Content}
use Rattle.acct_book.specs.Effect.{Holds, effect_of}
use Rattle.acct_book.specs.Outcome.{IsFresh, IsRepeated}
use Rattle.acct_book.specs.Stands.{Stands}

-- with the entry the new content stands for any history that the old one stood for
abbrev pub AddsEntry : List Plan → Entry → Content → Content → Type 0
AddsEntry plans next old new = (history : History) → Stands plans old history
    → Admissible plans history next
    × IsFresh history next
    × Stands plans new (Accepted next ∷ history)

-- in any history that the content stands for, the entry is kept already
abbrev pub Repeats : List Plan → Entry → Content → Type 0
Repeats plans next content = (history : History) → Stands plans content history
    → IsRepeated history next

-- in any history that the content stands for, the entry is refused so
abbrev pub RefusesToAdd : List Plan → Entry → Content → RecordError → Type 0
RefusesToAdd plans next content error = (history : History) → Stands plans content history
    → Holds plans history (effect_of next (Err error))
