-- Sessions whose usage is carried forward: which they are, and what a call that carries them does.
use Rattle.std.specs.Prelude.{◌≡◌, ◌≢◌, ◌⊎◌, ℕ, ◌+◌, ◌<◌, ◌^◌, nat_lt, ◌==◌, Bool, true, false, List, [], ◌∷◌}
use Rattle.std.specs.Prelude.{Option, Some, None, Contains, length, bytes_eq, if◌then◌else◌}
use Rattle.std.specs.Prelude.{Result, OnOk, min, ◌-◌}
use Rattle.std.specs.List.{list_any, filter, sum_by}
use Rattle.acct_model.specs.declared.plan.Plan.{Plan}
use Rattle.acct_model.specs.declared.report.ReportKind.TheVariants.{Stop}
use Rattle.acct_model.specs.Report.{ReportFacts}
use Rattle.acct_model.specs.Plans.{counted, plan_for}
use Rattle.acct_model.specs.History.{History, all_topups, is_known}
use Rattle.acct_model.specs.Agreement.{BalancesAreEqual}
use Rattle.acct_model.specs.Forward.{Batch, sessions_in, CarriesBatch}
use Rattle.acct_book.specs.declared.book.Book.{Ghosts}
use Rattle.acct_book.specs.declared.key.Key.{Key}
use Rattle.acct_book.specs.declared.row.SessionState.{SessionState}
use Rattle.acct_book.specs.declared.row.SessionState.TheVariants.{Live, Closed, Stopped}
use Rattle.acct_book_forward.specs.declared.selection.Stay.{Stay}
use Rattle.acct_book_forward.specs.declared.selection.Stay.TheVariants.{Line, Kept, Open, Recent}
use Rattle.acct_book_forward.specs.declared.forwarding.Tally.{Tally}
use Rattle.acct_book.specs.Row.{RowFacts}
use Rattle.acct_book.specs.Rows.{name_of, row_of}
use Rattle.acct_book.specs.Content.{Content}
use Rattle.acct_book.specs.Stands.{Stands}

-- ---- which sessions

-- Which sessions are carried forward: those that ended before a moment, open ones that have
-- reported nothing since a moment, and none of some clients.
pub record SelectionFacts : Type 0 where
  pub ended_before : ℕ
  pub silent_before : ℕ
  pub kept : List (List ℕ)

-- the client of a row into which sessions were carried, a *line*: it begins with `(`, as no
-- configured client's name does
abbrev pub is_line : List ℕ → Bool
is_line [] = false
is_line (octet ∷ octets) = octet == 40

-- the moment from which on a session in this state stays
abbrev pub limit_of : SelectionFacts → SessionState → ℕ
limit_of selection Live = selection.silent_before
limit_of selection Closed = selection.ended_before
limit_of selection Stopped = selection.ended_before

-- why a session in this state stays if it has reported a later moment
abbrev pub too_young : SessionState → Stay
too_young Live = Open
too_young Closed = Recent
too_young Stopped = Recent

-- Why a row stays: it is a line, its client is one of those that are kept, or its last moment is
-- not before the limit. All others are carried forward.
abbrev pub stay_of : SelectionFacts → RowFacts → Option Stay
stay_of selection row =
    if is_line row.client then Some Line
    else if list_any (bytes_eq row.client) selection.kept then Some Kept
    else if nat_lt row.last (limit_of selection row.state) then None
    else Some (too_young row.state)

abbrev pub stay_number : Option Stay → ℕ
stay_number None = 0
stay_number (Some Line) = 1
stay_number (Some Kept) = 2
stay_number (Some Open) = 3
stay_number (Some Recent) = 4

-- these rows, without those that stay for other reasons
abbrev pub staying : SelectionFacts → Option Stay → List RowFacts → List RowFacts
staying selection why rows =
    filter (λ row. stay_number (stay_of selection row) == stay_number why) rows

-- ---- what is done

-- What the report of a line says: its session id is the account, and its plan counts all of its
-- octets. It is a Stop that says nothing of a time, a cause, a station and an address.
pub record IsBare (plan : Plan) (report : ReportFacts) : Type 0 where
  pub session : report.session ≡ report.user
  pub counts : counted plan report.input report.output ≡ report.input + report.output
  pub kind : report.kind ≡ Stop
  pub seconds : report.seconds ≡ 0
  pub cause : report.cause ≡ 0
  pub calling : report.calling ≡ []
  pub framed : report.framed ≡ None

-- The sessions of a batch have rows of its account and its class that the selection takes, and they
-- are carried into a line.
pub record IsChosen (selection : SelectionFacts) (plans : List Plan) (history : History)
    (batch : Batch) : Type 0 where
  pub taken : (key : Key) → Contains (sessions_in batch) (name_of key)
      → (row : RowFacts) × (row_of plans history key ≡ Some row) × (stay_of selection row ≡ None)
      × (row.account ≡ batch.report.user) × (row.plan ≡ batch.report.class)
  pub line : is_line batch.report.client ≡ true
  pub bare : (plan : Plan) → plan_for plans batch.report.class ≡ Some plan
      → IsBare plan batch.report

-- from a history to the one after several batches of chosen sessions
abbrev pub CarriesChosen : SelectionFacts → List Plan → History → List Batch → History → Type 0
CarriesChosen selection plans history [] after = after ≡ history
CarriesChosen selection plans history (batch ∷ batches) after =
    (mid : History) × IsChosen selection plans history batch
    × CarriesBatch plans history batch mid
    × CarriesChosen selection plans mid batches after

-- how many sessions these batches carry
abbrev pub carried_in : List Batch → ℕ
carried_in batches = sum_by (λ batch. length (sessions_in batch)) batches

-- the content stands for a history to which the given one was carried
abbrev pub IsCarriedOn : SelectionFacts → List Plan → History → Content → Type 0
IsCarriedOn selection plans history c =
    (batches : List Batch) × (after : History)
    × CarriesChosen selection plans history batches after × Stands plans c after

-- A call that carries chosen sessions forward, batch after batch, from any history that the content
-- stood for. It may stop early.
pub record CarriesOn {B T E : Type 0} (b : Ghosts B) (selection : SelectionFacts) (plans : List Plan)
    (old new : B) (result : Result T E) : Type 0 where
  pub was_sound : b.is_sound new → b.is_sound old
  pub was_open : b.is_open new → b.is_open old
  pub keeps_steady : b.is_steady old → b.is_steady new
  pub answers : b.is_sound new → OnOk result (b.is_open new)
  pub stands : b.is_open new → (history : History) → Stands plans (b.content old) history
      → IsCarriedOn selection plans history (b.content new)
  -- a crash leaves what it could before, or what stands for a history after some of the batches
  pub leaves : b.is_sound new → (c : Content) → b.left new c
      → b.left old c
      ⊎ (b.is_open old × ((history : History) → Stands plans (b.content old) history
      → IsCarriedOn selection plans history c))

-- A call carried so many sessions, from any history that the content stood for.
abbrev pub CountsOn : {B : Type 0} → Ghosts B → SelectionFacts → List Plan → B → B → ℕ → Type 0
CountsOn b selection plans old new count = b.is_open new
    → (history : History) → Stands plans (b.content old) history
    → (batches : List Batch) × (after : History)
    × CarriesChosen selection plans history batches after × Stands plans (b.content new) after
    × (carried_in batches ≡ count)

-- the same for a count that stays at the greatest number
abbrev pub CountsUpTo : {B : Type 0} → Ghosts B → SelectionFacts → List Plan → B → B → ℕ → Type 0
CountsUpTo b selection plans old new count = b.is_open new
    → (history : History) → Stands plans (b.content old) history
    → (batches : List Batch) × (after : History)
    × CarriesChosen selection plans history batches after × Stands plans (b.content new) after
    × (count ≡ min (carried_in batches) (2 ^ 64 - 1))

-- how many rows stay, by the reason, and how many should go and did not fit
pub record IsTallyOf (selection : SelectionFacts) (rows : List RowFacts) (tally : Tally) : Type 0 where
  pub too_large : tally.too_large ≡ length (staying selection None rows)
  pub of_kept : tally.of_kept ≡ length (staying selection (Some Kept) rows)
  pub still_open : tally.still_open ≡ length (staying selection (Some Open) rows)
  pub recent : tally.recent ≡ length (staying selection (Some Recent) rows)

-- a tally with one more row that stays for this reason, or that should go if there is none
abbrev pub with_stay : Option Stay → Tally → Tally
with_stay None tally = record tally { too_large = tally.too_large + 1 }
with_stay (Some Line) tally = tally
with_stay (Some Kept) tally = record tally { of_kept = tally.of_kept + 1 }
with_stay (Some Open) tally = record tally { still_open = tally.still_open + 1 }
with_stay (Some Recent) tally = record tally { recent = tally.recent + 1 }

-- one more row may be counted
pub record HasRoom (tally : Tally) : Type 0 where
  pub too_large : tally.too_large + 1 < 2 ^ 64
  pub of_kept : tally.of_kept + 1 < 2 ^ 64
  pub still_open : tally.still_open + 1 < 2 ^ 64
  pub recent : tally.recent + 1 < 2 ^ 64

-- ---- what stays as it was

-- To carry sessions forward moves no balance and no top-up, the same accounts are known, and each
-- session that stays and is no line keeps its row.
pub record CarryingMovesNothing (selection : SelectionFacts) (plans : List Plan) (history : History)
    (batches : List Batch) (after : History) : Type 0 where
  pub balances : BalancesAreEqual plans after history
  pub known : (account : List ℕ) → is_known after account ≡ is_known history account
  pub topups : all_topups after ≡ all_topups history
  pub rows : (key : Key) (row : RowFacts) → is_line key.client ≡ false
      → row_of plans history key ≡ Some row → stay_of selection row ≢ None
      → row_of plans after key ≡ Some row
