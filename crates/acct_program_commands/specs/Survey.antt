-- What a run of `forward` counts and prints.
use Rattle.std.specs.Prelude.{◌≡◌, ◌&&◌, ◌-◌, ◌^◌, ◌++◌, ℕ, Bool, true, false}
use Rattle.std.specs.Prelude.{List, [], ◌∷◌, Option, Some, None, is_none, is_some, min, length}
use Rattle.std.specs.Prelude.{Contains, OnOk, Result, codes, decimal, flat_map, if◌then◌else◌}
use Rattle.std.specs.List.{concat, count_by, sum_by}
use Rattle.std.specs.List.Sorted.{IsStrictlySortedBy}
use Rattle.std.specs.Io.KnownBytes.{Appends}
use Rattle.std.specs.Map.{keys_of}
use Rattle.acct_model.specs.Shown.{shown}
use Rattle.acct_model.specs.declared.plan.Plan.{Plan}
use Rattle.acct_book.specs.declared.book.Book.{Ghosts}
use Rattle.acct_book.specs.declared.row.SessionState.{SessionState}
use Rattle.acct_book.specs.declared.row.SessionState.TheVariants.{Live, Closed, Stopped}
use Rattle.acct_book.specs.Content.{Content}
use Rattle.acct_book.specs.Maps.{octets_cmp}
use Rattle.acct_book.specs.Row.{RowFacts}
use Rattle.acct_book.specs.Walk.{AreRowsOf}
use Rattle.acct_book_forward.specs.Carrying.{SelectionFacts, CountsUpTo, stay_of, staying}
use Rattle.acct_book_forward.specs.declared.selection.Stay.{Stay}
use Rattle.acct_book_forward.specs.declared.selection.Stay.TheVariants.{Kept, Open, Recent}
use Rattle.acct_program_args.specs.declared.job.Carrying.{Carrying}
use Rattle.acct_program_commands.specs.Forwarding.{selected, Forwards}
use Rattle.acct_program_commands.specs.declared.forward_command.Totals.{Totals}

-- ---- what is counted

-- an account, and the rows of its sessions
abbrev pub Account : Type 0
Account = List ℕ × List RowFacts

-- Each account for which a balance is kept, once and in order, with its rows.
pub record AreAccounts (content : Content) (accounts : List Account) : Type 0 where
  pub in_order : IsStrictlySortedBy octets_cmp (keys_of accounts)
  pub each : (account : List ℕ) (rows : List RowFacts) → Contains accounts (account, rows)
      → (is_some (content.balances account) ≡ true) × AreRowsOf content account rows
  pub all : (account : List ℕ) → is_some (content.balances account) ≡ true
      → (rows : List RowFacts) × Contains accounts (account, rows)

-- a number that stops at the greatest one
abbrev pub up_to_most : ℕ → ℕ
up_to_most count = min count (2 ^ 64 - 1)

-- how many sessions of these accounts stay for a reason, or how many go
abbrev pub sessions_that : SelectionFacts → Option Stay → List Account → ℕ
sessions_that selection why accounts = sum_by (λ a. length (staying selection why a.1)) accounts

abbrev pub has_some : List RowFacts → Bool
has_some [] = false
has_some (row ∷ rows) = true

-- some session of an account goes
abbrev pub is_touched : SelectionFacts → Account → Bool
is_touched selection account = has_some (staying selection None account.1)

-- What was counted of these accounts: as if each session that goes was carried.
pub record Counts (selection : SelectionFacts) (accounts : List Account) (found : Totals)
    : Type 0 where
  pub accounts_are : found.accounts ≡ up_to_most (length accounts)
  pub touched : found.touched ≡ up_to_most (count_by (is_touched selection) accounts)
  pub carried : found.sessions.carried ≡ up_to_most (sessions_that selection None accounts)
  pub of_kept : found.sessions.of_kept ≡ up_to_most (sessions_that selection (Some Kept) accounts)
  pub still_open : found.sessions.still_open
      ≡ up_to_most (sessions_that selection (Some Open) accounts)
  pub recent : found.sessions.recent ≡ up_to_most (sessions_that selection (Some Recent) accounts)
  pub too_large : found.sessions.too_large ≡ 0

-- this is counted of a content
abbrev pub CountsAll : SelectionFacts → Content → Totals → Type 0
CountsAll selection content found =
    (accounts : List Account) × AreAccounts content accounts × Counts selection accounts found

-- ---- what is printed

abbrev pub is_live : SessionState → Bool
is_live Live = true
is_live Closed = false
is_live Stopped = false

-- `open: CLIENT SESSION of ACCOUNT, silent since SECONDS`
abbrev pub session_line : RowFacts → List ℕ
session_line row = concat (
    codes "open: " ∷ row.client ∷ codes " " ∷ shown row.session ∷ codes " of " ∷ shown row.account
    ∷ codes ", silent since " ∷ decimal row.last ∷ (10 ∷ []) ∷ [])

-- this line, if the session is open and goes
abbrev pub open_line : SelectionFacts → RowFacts → List ℕ
open_line selection row =
    if is_live row.state && is_none (stay_of selection row) then session_line row else []

abbrev pub open_lines : SelectionFacts → List Account → List ℕ
open_lines selection accounts =
    flat_map (λ a. flat_map (λ row. open_line selection row) a.1) accounts

-- each open session of a content that goes, if they are to be listed
abbrev pub Lists : Bool → SelectionFacts → Content → List ℕ → Type 0
Lists false selection content text = text ≡ []
Lists true selection content text = (accounts : List Account) × AreAccounts content accounts
    × (text ≡ open_lines selection accounts)

abbrev pub verb : Bool → List ℕ
verb true = codes "would carry"
verb false = codes "carried"

-- `carried 3 sessions of 2 accounts`
abbrev pub carried_line : Bool → Totals → List ℕ
carried_line is_dry totals = concat (
    verb is_dry ∷ codes " " ∷ decimal totals.sessions.carried ∷ codes " sessions of "
    ∷ decimal totals.touched ∷ codes " accounts" ∷ (10 ∷ []) ∷ [])

-- `stay: 1 open, 4 recent, 5 kept, 6 too large`
abbrev pub stay_line : Totals → List ℕ
stay_line totals = concat (
    codes "stay: " ∷ decimal totals.sessions.still_open ∷ codes " open, "
    ∷ decimal totals.sessions.recent ∷ codes " recent, " ∷ decimal totals.sessions.of_kept
    ∷ codes " kept, " ∷ decimal totals.sessions.too_large ∷ codes " too large" ∷ (10 ∷ []) ∷ [])

abbrev pub totals_text : Bool → Totals → List ℕ
totals_text is_dry totals = carried_line is_dry totals ++ stay_line totals

-- What a run of `forward` printed that ended well: the open sessions that go, if some may, and then
-- the totals. Those of a dry run, and of one that found no session to carry, are what it counted in
-- the book. Any other run says how many sessions it carried.
pub record TellsForward {B : Type 0} (b : Ghosts B) (plans : List Plan) (carrying : Carrying)
    (moment : ℕ) (before after : Option (List ℕ)) (old new : B) : Type 0 where
  pub listed : List ℕ
  pub lists : Lists (is_some carrying.silent) (selected carrying moment) (b.content old) listed
  pub found : Totals
  pub counts : CountsAll (selected carrying moment) (b.content old) found
  pub totals : Totals
  pub printed : Appends before after (listed ++ totals_text carrying.is_dry totals)
  pub dry : carrying.is_dry ≡ true → totals ≡ found
  pub none : found.sessions.carried ≡ 0 → totals ≡ found
  pub carried : carrying.is_dry ≡ false
      → CountsUpTo b (selected carrying moment) plans old new totals.sessions.carried

-- A run of `forward`: what it did to the book, and what it printed if it ended well.
-- `b.is_open new` means that the contents are known.
pub record RunsForward {B T E : Type 0} (b : Ghosts B) (plans : List Plan) (carrying : Carrying)
    (moment written_at : ℕ) (before after : Option (List ℕ)) (old new : B) (ended : Result T E)
    : Type 0 where
  pub forwards : Forwards b plans carrying moment written_at old new ended
  pub told : b.is_open new
      → OnOk ended (TellsForward b plans carrying moment before after old new)
