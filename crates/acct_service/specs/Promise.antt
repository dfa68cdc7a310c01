-- The promise in one statement: whatever comes to a server, every balance is right.
use Rattle.std.specs.Prelude.{◌≡◌, ◌⊎◌, ℕ, ℤ, pos, ◌-ℤ◌, List, [], ◌∷◌, map, Option}
use Rattle.std.specs.List.{AllZip, filter, sum_by}
use Rattle.acct_model.specs.declared.plan.Plan.{Plan}
use Rattle.acct_model.specs.declared.entry.Entry.{Entry}
use Rattle.acct_model.specs.Plans.{price_under}
use Rattle.acct_model.specs.History.{Accepted, History, SessionName, sessions, reports, first_of}
use Rattle.acct_model.specs.History.{is_owner, plan_of, counted_of, largest, vouchers}
use Rattle.acct_book.specs.declared.book.Book.{Ghosts}
use Rattle.acct_book.specs.Content.{Content, kept_balance}
use Rattle.acct_book.specs.Effect.{after_effect}
use Rattle.acct_book.specs.Stands.{Stands}
use Rattle.acct_book.specs.Step.{StoodFor}
use Rattle.acct_service.specs.declared.exchange.Call.{Call}
use Rattle.acct_service.specs.Machine.{Visit, Run}
use Rattle.acct_service.specs.Serving.{Attends, HasFailed}

-- What was accepted, before these visits and by them, the newest first: each visit adds the entry
-- that its answer says was added, and no other.
abbrev pub accepted : History → List Visit → History
accepted before [] = before
accepted before (visit ∷ visits) = accepted (after_effect before visit.effect) visits

-- the same was received, under the same rules, and answered in the same way
abbrev pub IsAnsweredAlike : Visit → Visit → Type 0
IsAnsweredAlike one other =
    (one.event ≡ other.event) × (one.site ≡ other.site) × (one.oldest ≡ other.oldest)
    × (one.answer ≡ other.answer)

-- ---- what is due

module _ (plans : List Plan) (history : History) where
  -- the sessions of an account, each once: those whose first report has it as its user
  abbrev pub sessions_of : List ℕ → List SessionName
  sessions_of account =
      filter (λ name. is_owner account (first_of (reports history name))) (sessions history)

  -- the most that the plan of a session counts of one of its reports
  abbrev pub greatest_total : SessionName → ℕ
  greatest_total name =
      largest (map (counted_of (plan_of plans history name)) (reports history name))

  -- the price of that
  abbrev pub price_due : SessionName → ℕ
  price_due name = price_under (plan_of plans history name) (greatest_total name)

  -- The balance of an account: the sums of its vouchers, each once, less the prices of the greatest
  -- totals of its sessions. An account with neither has 0.
  abbrev pub balance_due : List ℕ → ℤ
  balance_due account =
      pos (sum_by (λ voucher. voucher.1) (vouchers history account))
      -ℤ pos (sum_by price_due (sessions_of account))

  -- each account, whatever its name, has the balance that is due to it
  abbrev pub AreBalancesDue : Content → Type 0
  AreBalancesDue content = (account : List ℕ) → kept_balance content account ≡ balance_due account

-- ---- the promise

-- A book began with a history: its content stands for it, while it is open, and so does all that a
-- stop may leave of it.
abbrev pub BeganWith : {B : Type 0} → Ghosts B → List Plan → History → B → Type 0
BeganWith b plans before book =
    StoodFor b plans book before × ((left : Content) → b.left book left → Stands plans left before)

-- Each account has the balance that is due by what was accepted; or by that and one entry whose
-- call failed in a visit: it was not answered as accepted, and may have been written.
abbrev pub AreDueOrFailed : List Plan → History → List Visit → Content → Type 0
AreDueOrFailed plans history visits content =
    AreBalancesDue plans history content
    ⊎ ((asked : Entry) × HasFailed visits asked
    × AreBalancesDue plans (Accepted asked ∷ history) content)

-- After these visits of a server, which began with a history.
pub record EveryBalanceIsRight {B : Type 0} (b : Ghosts B) (plans : List Plan) (before : History)
    (visits : List Visit) (new : B) : Type 0 where
  -- each answer is the one that is due by what was accepted before it
  pub answers : Run plans before visits (accepted before visits)
  -- by what was received and how it was answered, nothing else was accepted
  pub only : (others : List Visit) (after : History) → AllZip IsAnsweredAlike visits others
      → Run plans before others after → after ≡ accepted before visits
  -- the content of an open book stands for it: the next server begins with it
  pub goes_on : StoodFor b plans new (accepted before visits)
  -- in an open book each account has the balance that is due by what was accepted
  pub balances : b.is_open new → AreBalancesDue plans (accepted before visits) (b.content new)
  -- and so it has in anything that a stop leaves of that book
  pub stop : b.is_open new → (left : Content) → b.left new left
      → AreBalancesDue plans (accepted before visits) left
  -- of a book that a failed write has shut, a stop may also leave the entry of that write
  pub shut : (left : Content) → b.left new left
      → AreDueOrFailed plans (accepted before visits) visits left

-- Whatever the events were, lost, repeated or late, if at the end the store is as it promises.
abbrev pub BalancesAreRight : {B : Type 0} → Ghosts B → Type 0
BalancesAreRight {B} b = (plans : List Plan) (before : History) (visits : List Visit) (old new : B)
    (told later : Option (List Call)) → Attends b plans visits old new told later
    → BeganWith b plans before old → b.is_sound new
    → EveryBalanceIsRight b plans before visits new

-- an open book whose content stands for a history began with it
abbrev pub OpenBooksBegin : {B : Type 0} → Ghosts B → Type 0
OpenBooksBegin {B} b = (plans : List Plan) (before : History) (book : B) → b.is_open book
    → Stands plans (b.content book) before → BeganWith b plans before book
