-- What the parts of `carry_account` promise one another.
use Rattle.std.specs.Prelude.{◌≡◌, ◌≢◌, ◌⊎◌, ℕ, ◌+◌, ◌*◌, ◌<◌, List, [], ◌∷◌, ◌++◌, Option, Some, None}
use Rattle.std.specs.Prelude.{map, Contains, true, false, Bool, ◌&&◌, bytes_eq, Result, Ok, OnOk}
use Rattle.std.specs.Prelude.{is_none}
use Rattle.std.specs.List.{sum_by}
use Rattle.std.specs.List.Sorted.{IsStrictlySortedBy}
use Rattle.std.specs.Map.{update}
use Rattle.acct_model.specs.declared.plan.Plan.{Plan}
use Rattle.acct_model.specs.Report.{ReportFacts}
use Rattle.acct_model.specs.Plans.{started_blocks, counted, plan_for}
use Rattle.acct_model.specs.History.{History, SessionName}
use Rattle.acct_model.specs.Forward.{Batch, sessions_in, CarriesForward, forwarded}
use Rattle.acct_book.specs.declared.book.Book.{Ghosts}
use Rattle.acct_book.specs.declared.key.Key.{Key}
use Rattle.acct_book.specs.Row.{RowFacts}
use Rattle.acct_book.specs.Rows.{name_of, row_of}
use Rattle.acct_book.specs.Content.{Content, same_key, key_of, IsNone}
use Rattle.acct_book.specs.Maps.{key_cmp}
use Rattle.acct_book.specs.Stands.{Stands}
use Rattle.acct_book_forward.specs.Carrying.{SelectionFacts, is_line, stay_of, with_stay, HasRoom}
use Rattle.acct_book_forward.specs.Carrying.{IsBare}
use Rattle.acct_book_forward.specs.declared.forwarding.Tally.{Tally}
use Rattle.acct_book_forward.specs.declared.forwarding.Turn.{Turn}
use Rattle.acct_book_forward.specs.declared.forwarding.Turn.TheVariants.{Carried, TooLarge}
use Rattle.acct_book.specs.Next.{report_key, next_row}

-- ---- what a report carries

-- each of these keys has a row, of this account and of the plan of this class, also without the
-- rows of the keys before it
abbrev pub HaveRows : List ℕ → List ℕ → (Key → Option RowFacts) → List Key → Type 0
HaveRows owner class rows [] = Unit {0}
HaveRows owner class rows (key ∷ keys) =
    ((row : RowFacts) × (rows key ≡ Some row) × (row.account ≡ owner) × (row.plan ≡ class))
    × HaveRows owner class (update same_key rows key None) keys

-- the blocks that a row has started
abbrev pub blocks_at : Plan → Option RowFacts → ℕ
blocks_at plan None = 0
blocks_at plan (Some row) = started_blocks plan.block (counted plan row.input row.output)

-- the blocks that the rows of these keys have started
abbrev pub blocks_in : Plan → (Key → Option RowFacts) → List Key → ℕ
blocks_in plan rows [] = 0
blocks_in plan rows (key ∷ keys) =
    blocks_at plan (rows key) + blocks_in plan (update same_key rows key None) keys

-- the row into which sessions are carried: none yet, or whole blocks of the account and the class
abbrev pub IsInto : Plan → List ℕ → List ℕ → Option RowFacts → ℕ → Type 0
IsInto plan owner class None blocks = blocks ≡ 0
IsInto plan owner class (Some into) blocks =
    (into.account ≡ owner) × (into.plan ≡ class)
    × (counted plan into.input into.output ≡ blocks * plan.block)

-- The report carries the sessions of these keys forward, of which there is at least one.
pub record CarriesRows (plans : List Plan) (rows : Key → Option RowFacts) (key : Key)
    (keys : List Key) (report : ReportFacts) : Type 0 where
  pub apart : IsNone (key ∷ keys) (report_key report)
  pub have : HaveRows report.user report.class rows (key ∷ keys)
  pub plan : Plan
  pub plan_is : plan_for plans report.class ≡ Some plan
  pub some : 0 < plan.block
  pub blocks : ℕ
  pub into : IsInto plan report.user report.class (rows (report_key report)) blocks
  pub raised : counted plan report.input report.output
      ≡ (blocks + blocks_in plan rows (key ∷ keys)) * plan.block

-- the sessions of these keys
abbrev pub names_of : List Key → List SessionName
names_of keys = map name_of keys

-- The report of a line carries the sessions of these keys forward in this content, into this row.
pub record IsCarriedBy (plans : List Plan) (content : Content) (gone : List Key) (row : RowFacts)
    (report : ReportFacts) : Type 0 where
  pub line : is_line report.client ≡ true
  pub key : Key
  pub keys : List Key
  pub are : gone ≡ key ∷ keys
  pub carries : CarriesRows plans content.rows key keys report
  pub bare : IsBare carries.plan report
  pub into : row ≡ next_row plans (content.rows (report_key report)) report

-- some report does so
abbrev pub AreCarriedInto : List Plan → Content → List Key → RowFacts → Type 0
AreCarriedInto plans content gone row =
    (report : ReportFacts) × IsCarriedBy plans content gone row report

-- The report is of the session of this key, of this account and plan. It counts the blocks that the
-- row found there holds and those that these rows have started.
pub record IsForward (plan : Plan) (account : List ℕ) (rows : List RowFacts)
    (found : Option RowFacts) (into : Key) (report : ReportFacts) : Type 0 where
  pub key : report_key report ≡ into
  pub user : report.user ≡ account
  pub class : report.class ≡ plan.class
  pub bare : IsBare plan report
  pub blocks : ℕ
  pub holds : IsInto plan account plan.class found blocks
  pub raised : counted plan report.input report.output
      ≡ (blocks + sum_by (λ row. blocks_at plan (Some row)) rows) * plan.block

-- ---- rows of an account

-- the row of the account that is kept under this key
pub record IsUnder (content : Content) (account : List ℕ) (key : Key) (row : RowFacts)
    : Type 0 where
  pub there : content.rows key ≡ Some row
  pub own : row.account ≡ account

-- these rows, and the one that was found, if one was
abbrev pub with_found : List RowFacts → Option RowFacts → List RowFacts
with_found rows None = rows
with_found rows (Some row) = rows ++ row ∷ []

-- these are rows of the account, each kept under its own key, in the order of these
pub record AreAmong (content : Content) (account : List ℕ) (rows : List RowFacts) : Type 0 where
  pub in_order : IsStrictlySortedBy key_cmp (map key_of rows)
  pub each : (row : RowFacts) → Contains rows row → IsUnder content account (key_of row) row

-- these rows are kept under their own keys, also without the ones before them
abbrev pub AreIn : (Key → Option RowFacts) → List RowFacts → Type 0
AreIn rows [] = Unit {0}
AreIn rows (row ∷ others) =
    (rows (key_of row) ≡ Some row) × AreIn (update same_key rows (key_of row) None) others

-- these rows are of one account and plan
abbrev pub AreAllOf : List ℕ → List ℕ → List RowFacts → Type 0
AreAllOf account class [] = Unit {0}
AreAllOf account class (row ∷ others) =
    ((row.account ≡ account) × (row.plan ≡ class)) × AreAllOf account class others

-- the selection takes these rows
abbrev pub AreTaken : SelectionFacts → List RowFacts → Type 0
AreTaken selection rows = (row : RowFacts) → Contains rows row → stay_of selection row ≡ None

-- none of these rows is a line
abbrev pub AreNoLines : List RowFacts → Type 0
AreNoLines rows = (row : RowFacts) → Contains rows row → is_line row.client ≡ false

-- the row is of the plan of this class, and may be carried forward
abbrev pub goes : SelectionFacts → List ℕ → RowFacts → Bool
goes selection class row = bytes_eq row.plan class && is_none (stay_of selection row)

-- ---- calls

-- how many rows a batch carried
abbrev pub count_of : Turn → ℕ
count_of (Carried count has_more) = count
count_of (TooLarge class) = 0

-- the content stands for the history in which the sessions of these keys were carried forward
pub record IsAfter (plans : List Plan) (history : History) (gone : List Key) (content : Content)
    : Type 0 where
  pub batch : Batch
  pub line : is_line batch.report.client ≡ true
  pub bare : (plan : Plan) → plan_for plans batch.report.class ≡ Some plan
      → IsBare plan batch.report
  pub are : names_of gone ≡ sessions_in batch
  pub own : (key : Key) → Contains gone key
      → (row : RowFacts) × (row_of plans history key ≡ Some row) × (row.account ≡ batch.report.user)
      × (row.plan ≡ batch.report.class)
  pub carries : CarriesForward plans history batch.name batch.names batch.report
  pub stands : Stands plans content (forwarded history (sessions_in batch) batch.report)

-- A call that carries the sessions of these keys forward, if they fit, from any history that the
-- content stood for.
pub record CarriesInto {B E : Type 0} (b : Ghosts B) (plans : List Plan) (gone : List Key)
    (old new : B) (result : Result Bool E) : Type 0 where
  pub was_sound : b.is_sound new → b.is_sound old
  pub was_open : b.is_open new → b.is_open old
  pub keeps_steady : b.is_steady old → b.is_steady new
  pub answers : b.is_sound new → OnOk result (b.is_open new)
  pub carried : b.is_open new → result ≡ Ok true → (history : History)
      → Stands plans (b.content old) history → IsAfter plans history gone (b.content new)
  pub unchanged : b.is_open new → result ≢ Ok true → b.content new ≡ b.content old
  -- a crash leaves what it could before, or the whole of it
  pub leaves : b.is_sound new → (c : Content) → b.left new c
      → b.left old c
      ⊎ (b.is_open old × ((history : History) → Stands plans (b.content old) history
      → IsAfter plans history gone c))

-- The tally counts the row under this key too, if there is one and the tally has room.
abbrev pub IsCounted : Content → SelectionFacts → Key → Tally → Tally → Type 0
IsCounted content selection key old new = (row : RowFacts) → content.rows key ≡ Some row
    → HasRoom old → new ≡ with_stay (stay_of selection row) old
