-- What the desk reads of a book for a part of the accounts.
use Rattle.std.specs.Prelude.{◌≡◌, ◌++◌, ℕ, ℤ, List, length, Result, IfOk, OnOk}
use Rattle.std.specs.List.{filter_map}
use Rattle.serde_json.specs.Data.{Data}
use Rattle.acct_book.specs.declared.book.Book.{Ghosts}
use Rattle.acct_book.specs.Row.{RowFacts}
use Rattle.acct_book.specs.Step.{OnlyLooks}
use Rattle.acct_book.specs.Walk.{AreRowsOf}
use Rattle.acct_desk_pages.specs.declared.bodies.PageError.{PageError}
use Rattle.acct_desk_pages.specs.Overdrawn.{open_in}
use Rattle.acct_desk.specs.Overdrawn.{HasRows}

-- these rows were looked at for an account, so many, and their open sessions are added
pub record AddsRows (are_rows : List ℕ → List RowFacts → Type 0) (is_open : Type 0)
    (account : List ℕ) (balance : ℤ) (before after : List Data) (count : ℕ) : Type 0 where
  pub rows : List RowFacts
  pub has : is_open → HasRows are_rows (record { account = account; balance = balance; rows = rows })
  pub counted : count ≡ length rows
  pub added : after ≡ before ++ filter_map open_in rows

-- The open sessions of an account are added to others. The book is only read.
pub record Adds {B : Type 0} (b : Ghosts B) (account : List ℕ) (balance : ℤ)
    (before after : List Data) (old new : B) (result : Result ℕ PageError) : Type 0 where
  pub reads : OnlyLooks b old new
  pub answers : (b.is_sound old → b.is_open old) → b.is_sound new → OnOk result (b.is_open new)
  pub rows : IfOk result (AddsRows (AreRowsOf (b.content old)) (b.is_open new) account balance
      before after)
