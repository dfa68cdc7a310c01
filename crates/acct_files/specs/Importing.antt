-- What an import does: the records of a text, the outcome of each, and what the book then stands
-- for.
use Rattle.std.specs.Prelude.{◌≡◌, ◌≢◌, ◌⊎◌, ◌+◌, ◌≤◌, ⊤, ℕ, ℤ, Bool, true, false, List, [], ◌∷◌}
use Rattle.std.specs.Prelude.{◌++◌, length, count_by, Option, Some, None, IfSome, option_map}
use Rattle.std.specs.Prelude.{Result, Ok, Err}
use Rattle.std.specs.Option.{option_map_or}
use Rattle.csv.specs.Machine.{next_record}
use Rattle.csv.specs.Reading.{AreRecords, Reached, default_config, strip_bom}
use Rattle.csv.specs.declared.parser.State.{State}
use Rattle.csv.specs.declared.parser.State.TheVariants as st
use Rattle.acct_model.specs.declared.plan.Plan.{Plan}
use Rattle.acct_model.specs.declared.entry.Entry.TheVariants.{TopUp}
use Rattle.acct_model.specs.Vouchers.{TopUpFacts}
use Rattle.acct_model.specs.History.{History}
use Rattle.acct_book.specs.Content.{Content}
use Rattle.acct_book.specs.declared.book.Book.{Ghosts}
use Rattle.acct_book.specs.Effect.{Effect, added, repeated, differs, limited}
use Rattle.acct_book.specs.Effect.{unasked}
use Rattle.acct_book.specs.Effect.{after_effect, Holds}
use Rattle.acct_book.specs.Step.{MayAdd, StoodFor}
use Rattle.acct_book.specs.Stands.{Stands}
use Rattle.acct_files.specs.declared.import_report.Cause.{Cause}
use Rattle.acct_files.specs.declared.import_report.Cause.TheVariants.{VoucherDiffers, BalanceLimit}
use Rattle.acct_files.specs.declared.import_report.Stopped.{Stopped}
use Rattle.acct_files.specs.declared.import_report.Stopped.TheVariants as stop
use Rattle.acct_files.specs.declared.import_report.Refused.{Refused}
use Rattle.acct_files.specs.declared.import_report.ImportReport.{ImportReport}
use Rattle.acct_files.specs.declared.import_report.Outcome.{Outcome}
use Rattle.acct_files.specs.declared.import_report.Outcome.TheVariants as outcome
use Rattle.acct_files.specs.Vouchers.{Fields, is_header, asked_by}

-- ---- one record

-- the effect of a record that asks for this top-up, or for none, by its outcome
abbrev pub Becomes : Result TopUpFacts Cause → Outcome → Effect → Type 0
Becomes (Ok topup) outcome.Added effect = effect ≡ added (TopUp topup)
Becomes (Ok topup) outcome.Repeated effect = effect ≡ repeated (TopUp topup)
Becomes (Ok topup) (outcome.Refused VoucherDiffers) effect =
    (kept : TopUpFacts) × (effect ≡ differs (TopUp topup) kept)
Becomes (Ok topup) (outcome.Refused BalanceLimit) effect =
    (balance : ℤ) × (effect ≡ limited (TopUp topup) balance)
Becomes (Ok topup) (outcome.Refused cause) effect = ⊥
Becomes (Err cause) outcome.Added effect = ⊥
Becomes (Err cause) outcome.Repeated effect = ⊥
Becomes (Err cause) (outcome.Refused told) effect = (told ≡ cause) × (effect ≡ unasked)

-- ---- record after record

-- each record in its turn: an effect that is true of the history that the one before it left
abbrev pub Imported : List Plan → ℕ → History → List Fields → List Outcome → History → Type 0
Imported plans moment old [] [] new = new ≡ old
Imported plans moment old (fields ∷ rows) (outcome ∷ outcomes) new =
    (effect : Effect) × Becomes (asked_by moment fields) outcome effect × Holds plans old effect
    × Imported plans moment (after_effect old effect) rows outcomes new
Imported plans moment old [] (outcome ∷ outcomes) new = ⊥
Imported plans moment old (fields ∷ rows) [] new = ⊥

abbrev pub is_added : Outcome → Bool
is_added outcome.Added = true
is_added outcome.Repeated = false
is_added (outcome.Refused cause) = false

abbrev pub is_repeated : Outcome → Bool
is_repeated outcome.Added = false
is_repeated outcome.Repeated = true
is_repeated (outcome.Refused cause) = false

abbrev pub is_refused : Outcome → Bool
is_refused outcome.Added = false
is_refused outcome.Repeated = false
is_refused (outcome.Refused cause) = true

-- the refused records with their numbers, if the first record has number n
abbrev pub refused_from : ℕ → List Outcome → List Refused
refused_from n [] = []
refused_from n (outcome.Added ∷ outcomes) = refused_from (n + 1) outcomes
refused_from n (outcome.Repeated ∷ outcomes) = refused_from (n + 1) outcomes
refused_from n (outcome.Refused cause ∷ outcomes) =
    record { number = n; cause = cause } ∷ refused_from (n + 1) outcomes

-- the report counts the outcomes of the records, the first of which is record 2
pub record CountsLines (outcomes : List Outcome) (report : ImportReport) : Type 0 where
  pub added : report.added ≡ count_by is_added outcomes
  pub repeated : report.repeated ≡ count_by is_repeated outcomes
  pub refused : report.refused ≡ refused_from 2 outcomes

-- ---- how far a text was read

-- a text without the byte order mark that may begin it
abbrev pub unmarked : Option (List ℕ) → Option (List ℕ)
unmarked = option_map strip_bom

-- the header and these records begin a text
abbrev pub Begin : List ℕ → List Fields → Type 0
Begin text rows = (header : Fields) × (is_header header ≡ true) × (s : State) × (rest : List ℕ)
    × Reached default_config st.StartRecord text (header ∷ rows) s rest

-- the header and these records are all of a text
abbrev pub AreAll : List ℕ → List Fields → Type 0
AreAll text rows = (header : Fields) × (is_header header ≡ true)
    × AreRecords default_config st.StartRecord text (header ∷ rows)

-- whether a text's first record is there and is the header
abbrev pub has_header : List ℕ → Bool
has_header text = option_map_or (λ read. is_header read.0)
    (next_record default_config st.StartRecord [] [] text) false

-- the records after the header that were processed, by why the import stopped, if it did
abbrev pub AreTaken : ℕ → List ℕ → Option Stopped → Option TopUpFacts → List Fields → Type 0
AreTaken moment text None tried rows = AreAll text rows × (length rows ≤ 1000000)
AreTaken moment text (Some stop.BadHeader) tried rows = (rows ≡ []) × (has_header text ≡ false)
AreTaken moment text (Some stop.Unreadable) tried rows = (rows ≡ []) ⊎ Begin text rows
AreTaken moment text (Some stop.Unavailable) tried rows =
    (topup : TopUpFacts) × (tried ≡ Some topup) × (fields : Fields)
    × (asked_by moment fields ≡ Ok topup) × Begin text (rows ++ fields ∷ [])
AreTaken moment text (Some stop.Memory) tried rows = (rows ≡ []) ⊎ Begin text rows
AreTaken moment text (Some stop.TooMany) tried rows = (length rows ≡ 1000000) × (fields : Fields)
    × Begin text (rows ++ fields ∷ [])

-- a top-up whose call returned Unavailable is there only if the import stopped for it
abbrev pub MayHaveTried : Option Stopped → Option TopUpFacts → Type 0
MayHaveTried stopped None = ⊤
MayHaveTried stopped (Some topup) = stopped ≡ Some stop.Unavailable

-- ---- the book

-- the content stands for the history, or for it with the top-up whose call failed
abbrev pub ImportLeaves : List Plan → History → Option TopUpFacts → Content → Type 0
ImportLeaves plans history None content = Stands plans content history
ImportLeaves plans history (Some topup) content =
    Stands plans content history ⊎ MayAdd plans history (TopUp topup) content

module _ {B : Type 0} (b : Ghosts B) where
  -- From a history to the one after it. The book stands for the one after it while it is open.
  -- Suppose that a crash of the old book leaves only contents that stand for the history. Then a
  -- crash of the new book leaves one that stands for the one after it, perhaps with the top-up
  -- whose call failed.
  pub record Moves (plans : List Plan) (history after : History) (tried : Option TopUpFacts)
      (old new : B) : Type 0 where
    pub stands : StoodFor b plans new after
    pub leaves : ((c : Content) → b.left old c → Stands plans c history) → (c : Content)
        → b.left new c
        → ImportLeaves plans after tried c

  -- a run over a text, from a history to the one after it
  pub record Imports (plans : List Plan) (moment : ℕ) (text : Option (List ℕ))
      (history : History) (stopped : Option Stopped) (report : ImportReport) (old new : B) : Type
      0 where
    pub after : History
    pub tried : Option TopUpFacts
    pub rows : List Fields
    pub outcomes : List Outcome
    pub run : Imported plans moment history rows outcomes after
    pub counts : CountsLines outcomes report
    pub taken : IfSome text (λ t. AreTaken moment t stopped tried rows)
    pub only : MayHaveTried stopped tried
    pub moves : Moves plans history after tried old new

module _ {B : Type 0} (b : Ghosts B) where
  -- what calls keep of a book, for any history that it stands for
  pub record KeepsOpen (stopped : Option Stopped) (added : ℕ) (old new : B) : Type 0 where
    pub was_sound : b.is_sound new → b.is_sound old
    pub was_open : b.is_open new → b.is_open old
    pub keeps_steady : b.is_steady old → b.is_steady new
    pub stays_open : b.is_sound new → stopped ≢ Some stop.Unavailable → b.is_open old
        → b.is_open new
    pub unchanged : b.is_open new → added ≡ 0 → b.content new ≡ b.content old
