-- What is told of the open sessions of accounts below 0, a part of the accounts at a time.
use Rattle.std.specs.Prelude.{◌≡◌, ℕ, ℤ, nat_le, nat_lt, Bool, false, ◌||◌, List, [], ◌∷◌, ◌++◌}
use Rattle.std.specs.Prelude.{length, flat_map, All, MatchBool, Option, Some, None}
use Rattle.serde_json.specs.Data.{Data}
use Rattle.acct_book.specs.Balance.{overrun_of}
use Rattle.acct_book.specs.Maps.{octets_cmp}
use Rattle.acct_book.specs.Row.{RowFacts}
use Rattle.acct_book.specs.Walk.{IsNext}
use Rattle.acct_desk_pages.specs.Overdrawn.{open_sessions_body}

-- an account that was looked at, with its rows if it is below 0
pub record Looked : Type 0 where
  pub account : List ℕ
  pub balance : ℤ
  pub rows : List RowFacts

-- all rows that were looked at
abbrev pub rows_looked : List Looked → List RowFacts
rows_looked accounts = flat_map (λ l. l.rows) accounts

-- A part is full with 5,000 accounts or 1,000 rows. The last account may have more rows.
abbrev pub is_full : List Looked → Bool
is_full accounts = nat_le 5000 (length accounts) || nat_le 1000 (length (rows_looked accounts))

-- the last account, else the start
abbrev pub last_of : Option (List ℕ) → List Looked → Option (List ℕ)
last_of after [] = after
last_of after (l ∷ later) = last_of (Some l.account) later

-- each account is the next after the one before
abbrev pub AreInTurn : (List ℕ → Option ℤ) → Option (List ℕ) → List Looked → Type 0
AreInTurn at after [] = Unit {0}
AreInTurn at after (l ∷ later) = IsNext octets_cmp at after (Some (l.account, l.balance))
    × AreInTurn at (Some l.account) later

-- the rows of an account below 0, and none of another
abbrev pub HasRows : (List ℕ → List RowFacts → Type 0) → Looked → Type 0
HasRows are_rows l = MatchBool (nat_lt 0 (overrun_of l.balance)) (are_rows l.account l.rows)
    (l.rows ≡ [])

-- A part of a walk over the accounts, from a start on. It ends when it is full or the walk ends, and
-- no sooner. To go on there is the last account, or none at the end of the walk.
pub record IsPartOf (at : List ℕ → Option ℤ) (are_rows : List ℕ → List RowFacts → Type 0)
    (after : Option (List ℕ)) (accounts : List Looked) (next : Option (List ℕ)) : Type 0 where
  pub in_turn : AreInTurn at after accounts
  pub with_rows : All (HasRows are_rows) accounts
  pub open_before : (front : List Looked) (last : Looked) (back : List Looked)
      → accounts ≡ front ++ last ∷ back → is_full front ≡ false
  pub ends : MatchBool (is_full accounts) (next ≡ last_of after accounts)
      ((next ≡ None) × IsNext {X = ℤ} octets_cmp at (last_of after accounts) None)

-- what is told: the open sessions of a part, and the account to go on from
pub record IsOverdrawnTold (at : List ℕ → Option ℤ) (are_rows : List ℕ → List RowFacts → Type 0)
    (after : Option (List ℕ)) (told : ℕ × Data) : Type 0 where
  pub accounts : List Looked
  pub next : Option (List ℕ)
  pub part : IsPartOf at are_rows after accounts next
  pub is : told ≡ (200, open_sessions_body next (rows_looked accounts))
