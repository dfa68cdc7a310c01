-- A file that was rewritten in one way was rewritten in each way that this one gives.
use Rattle.std.specs.Prelude.{◌≡◌, ⊤, ℕ, Bool, List, Option, Some, None, Result, Ok, Err, OnOk}
use Rattle.std.specs.Prelude.{is_err, false}
use Rattle.acct_book.specs.Content.{Content}
use Rattle.acct_program_commands.specs.Placed.{IsPut, PutsAccounts, PutsBalances, balances_text}
use Rattle.acct_program_commands.specs.Placed.{took_long}
use Rattle.acct_program_commands.specs.Rounds.{KeepsAt}
use Rattle.acct_program_commands.specs.Unwritten.{Rewrites}
use Rattle.acct_program_commands.specs.declared.fresh_file.FreshFile.{FreshFile}

pub keeps_however : (One Other : List ℕ → Type 0) (so : (name : List ℕ) → One name → Other name)
    (moment : ℕ) (old new : Option FreshFile) → KeepsAt One moment old new
    → KeepsAt Other moment old new
keeps_however One Other so moment None new same = same
keeps_however One Other so moment (Some old) None keeps = keeps
keeps_however One Other so moment (Some old) (Some new) (due, idle) = (
  λ is_due. let (is_long, (begun, put)) = due is_due in
      (is_long, (begun, λ fine. so old.name (put fine))),
  idle,
)

-- what has the balances of so many accounts has all balances
pub rewrites_counted : (Put : List ℕ → List ℕ → Type 0) (content : Content) (told : Type 0)
    (moment : ℕ) (old new : FreshFile)
    → ((count : ℕ) × Rewrites (took_long new.is_failing count)
    (λ name. PutsAccounts (Put name) count content told) moment old new)
    → (is_long : Bool)
    × Rewrites is_long (λ name. PutsBalances (Put name) content told) moment old new
rewrites_counted Put content told moment old new (count, (begun, put)) = (
  took_long new.is_failing count,
  (begun, λ fine. let (entries, all, placed, counted) = put fine in (entries, all, placed)),
)

-- what has all balances is some file
puts_some : (Put : List ℕ → Type 0) (content : Content) (told : Type 0)
    → PutsBalances Put content told → IsPut Put
puts_some Put content told (entries, all, put) = (balances_text entries, put)

-- the content is known if the book is open
puts_known : (Put : List ℕ → Type 0) (content : Content) (told : Type 0) → told
    → PutsBalances Put content told → PutsBalances Put content ⊤
puts_known Put content told is_told (entries, all, put) = (entries, λ known. all is_told, put)

-- what was put by a write that did not fail
pub put_if_fine : {T E P : Type 0} (written : Result T E) → OnOk written P
    → is_err written ≡ false → P
put_if_fine (Ok done) put fine = put
put_if_fine (Err fault) put fine = absurd (cc)

module _ (Put : List ℕ → List ℕ → Type 0) (content : Content) (told : Type 0) (moment : ℕ)
    (old new : Option FreshFile)
    (keeps : KeepsAt (λ name. PutsBalances (Put name) content told) moment old new) where
  pub keeps_some : KeepsAt (λ name. IsPut (Put name)) moment old new
  keeps_some = keeps_however (λ name. PutsBalances (Put name) content told)
      (λ name. IsPut (Put name)) (λ name. puts_some (Put name) content told) moment old new keeps

  pub keeps_known : told → KeepsAt (λ name. PutsBalances (Put name) content ⊤) moment old new
  keeps_known is_told = keeps_however (λ name. PutsBalances (Put name) content told)
      (λ name. PutsBalances (Put name) content ⊤)
      (λ name. puts_known (Put name) content told is_told) moment old new keeps
