-- What an open book knows of its tables.
use Rattle.std.specs.Prelude.{◌≡◌, ◌≢◌, ◌^◌, ◌<◌, Bool, List, [], ℕ, ℤ, Option, Some, None, IfSome}
use Rattle.std.specs.Prelude.{Vec, Result, Ok, IsErr, MatchResult}
use Rattle.std.specs.Prelude.{bytes_eq}
use Rattle.std.specs.Global.{Global}
use Rattle.std.specs.Map.{lookup}
use Rattle.lru.specs.LruCache.{LruCache}
use Rattle.sqlite.specs.State.{State, HasCleanDisk}
use Rattle.acct_book.specs.declared.key.Key.{Key}
use Rattle.acct_book.specs.Row.{RowFacts}
use Rattle.acct_book.specs.Content.{Content, kept_balance, key_of, same_key}
use Rattle.acct_sql.specs.declared.known.Known.{Known}
use Rattle.acct_sql_tables.specs.Content.{content_in_tables}
use Rattle.acct_sql_tables.specs.Book.{IsOpenBook}

-- ---- what the caches hold

abbrev pub entries_of : {K V : Type 0} → Option (LruCache K V) → List (K × V)
entries_of None = []
entries_of (Some cache) = cache.entries

-- what is found under a name, by a test of the keys' names
abbrev pub found_among : {K V N : Type 0} → (N → N → Bool) → (K → N) → Option (LruCache K V) → N
    → Option V
found_among same name cache n = lookup (λ key. same n (name key)) (entries_of cache)

abbrev pub balance_among : Option (LruCache (Vec ℕ Global) ℤ) → List ℕ → Option ℤ
balance_among = found_among bytes_eq (λ key. key.items)

-- the balance that is known of an account
abbrev pub known_balance : Known → List ℕ → Option ℤ
known_balance known = balance_among known.balances

abbrev pub session_name : Vec ℕ Global × Vec ℕ Global → Key
session_name name = record { client = name.0.items; session = name.1.items }

abbrev pub session_among : Option (LruCache (Vec ℕ Global × Vec ℕ Global) (Option RowFacts))
    → Key → Option (Option RowFacts)
session_among = found_among same_key session_name

-- the row that is known of a session, or that there is none
abbrev pub known_session : Known → Key → Option (Option RowFacts)
known_session known = session_among known.sessions

-- nothing is known of any account or session
pub record KnowsNothing (known : Known) : Type 0 where
  pub balances : (name : List ℕ) → known_balance known name ≡ None
  pub sessions : (key : Key) → known_session known key ≡ None

-- the session of this row is known, with its plan
pub record KnowsPlan (known : Known) (row : RowFacts) : Type 0 where
  pub was : RowFacts
  pub is : known_session known (key_of row) ≡ Some (Some was)
  pub fits : was.seconds < 2 ^ 64
  pub plan_is : was.plan ≡ row.plan

-- What a call of the store answered is returned, and what is known is as it was. If the call
-- failed, an error is returned, and nothing is known any more.
pub record KeepsOrForgets {T E F : Type 0} (answer : Result T E) (old new : Known)
    (result : Result T F) : Type 0 where
  pub answers : MatchResult answer (λ value. result ≡ Ok value) (λ _. IsErr result)
  pub keeps : MatchResult answer (λ _. new ≡ old) (λ _. KnowsNothing new)

-- Of this key this value is known or nothing, and of the others at most what was known before.
pub record Learns {K V : Type 0} (key : K) (value : V) (old new : K → Option V) : Type 0 where
  pub here : IfSome (new key) (λ v. v ≡ value)
  pub others : (other : K) → key ≢ other → IfSome (new other) (λ v. old other ≡ Some v)

-- ---- what the tables say

-- the book is open, and this is true of its content
abbrev pub IsTold : State → (Content → Type 0) → Type 0
IsTold s P = HasCleanDisk s → IsOpenBook s × P (content_in_tables s.now.trees)

-- each of what is known holds
abbrev pub AllTold : {N V : Type 0} → State → (N → V → Content → Type 0) → (N → Option V) → Type 0
AllTold {N} s P known = (n : N) → IfSome (known n) (λ v. IsTold s (P n v))

abbrev pub HasKept : List ℕ → ℤ → Content → Type 0
HasKept name balance content = kept_balance content name ≡ balance

abbrev pub HasRow : Key → Option RowFacts → Content → Type 0
HasRow key row content = content.rows key ≡ row

-- what is known is true of the tables, and the book is open if anything is known
pub record Knows (s : State) (known : Known) : Type 0 where
  pub balances : AllTold s HasKept (known_balance known)
  pub sessions : AllTold s HasRow (known_session known)
