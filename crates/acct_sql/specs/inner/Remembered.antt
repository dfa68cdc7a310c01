-- Which clients a book need not close again.
use Rattle.std.specs.Prelude.{◌≡◌, ◌≢◌, List, ℕ, Some, bytes_eq, filter, not}
use Rattle.sqlite.specs.State.{State}
use Rattle.sqlite_rules.specs.Lists.{Has}
use Rattle.acct_book.specs.declared.key.Key.{Key}
use Rattle.acct_book.specs.declared.row.SessionState.{SessionState}
use Rattle.acct_book.specs.declared.row.SessionState.TheVariants.{Live, Stopped, Closed}
use Rattle.acct_book.specs.Row.{RowFacts}
use Rattle.acct_book.specs.Content.{Content}
use Rattle.acct_sql.specs.declared.memory.Memory.{Memory}
use Rattle.acct_sql_tables.specs.Content.{content_in_tables}
use Rattle.acct_sql_tables.specs.Book.{IsOpenBook}

-- no session of the client is live
abbrev pub HasEnded : Content → List ℕ → Type 0
HasEnded content client = (key : Key) (row : RowFacts) → content.rows key ≡ Some row
    → row.client ≡ client → row.state ≢ Live

-- those that are left once a row is set
abbrev pub AreEndedAfter : RowFacts → List (List ℕ) → List (List ℕ) → Type 0
AreEndedAfter row old new = (client : List ℕ) → Has new client → Has old client
    × (row.client ≡ client → row.state ≢ Live)

-- Those that are remembered once a row is set: all but the client of a live one.
abbrev pub still_ended : SessionState → List ℕ → List (List ℕ) → List (List ℕ)
still_ended Live client ended = filter (λ name. not (bytes_eq client name)) ended
still_ended Stopped client ended = ended
still_ended Closed client ended = ended

-- each client that is remembered has no live session
pub record Remembers (s : State) (memory : Memory) : Type 0 where
  pub ended : (client : List ℕ) → Has memory.ended.items client → IsOpenBook s
      → HasEnded (content_in_tables s.now.trees) client
