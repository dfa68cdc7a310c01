-- A walk through the members of a book, each with what an audit finds of it.
use Rattle.std.specs.Prelude.{◌≡◌, ℕ, ℤ, Bool, List, [], ◌∷◌, Option, Some, None, is_some}
use Rattle.std.specs.Prelude.{option_map}
use Rattle.std.specs.Prelude.{if◌then◌else◌, Vec}
use Rattle.std.specs.Global.{Global}
use Rattle.acct_model.specs.declared.plan.Plan.{Plan}
use Rattle.acct_model.specs.Vouchers.{TopUpFacts}
use Rattle.acct_book.specs.declared.key.Key.{Key}
use Rattle.acct_book.specs.Row.{RowFacts}
use Rattle.acct_book.specs.Content.{Content}
use Rattle.acct_book.specs.Walk.{IsNextRow, IsNextBalance, IsNextTopUp}
use Rattle.acct_book_audit.specs.declared.statement.Statement.{Statement}
use Rattle.acct_book_audit.specs.Balancing.{IsStatement}
use Rattle.acct_book_audit.specs.Finding.{Finding, StraySession, StrayVoucher}

-- the octets of a vector, if there is one
abbrev pub octets_in : Option (Vec ℕ Global) → Option (List ℕ)
octets_in after = option_map (λ a. a.items) after

-- the next account with its statement
abbrev pub IsNextAccount : List Plan → Content → Option (Vec ℕ Global)
    → Option (Vec ℕ Global × Statement) → Type 0
IsNextAccount plans content after None = IsNextBalance content (octets_in after) None
IsNextAccount plans content after (Some member) =
    (balance : ℤ) × IsNextBalance content (octets_in after) (Some (member.0.items, balance))
    × IsStatement plans content member.0.items (Some balance) member.1

-- the next row, and whether a balance is kept for its account
abbrev pub IsNextSession : List Plan → Content → Option Key → Option (RowFacts × Bool) → Type 0
IsNextSession plans content after None = IsNextRow content after None
IsNextSession plans content after (Some member) =
    IsNextRow content after (Some member.0)
    × (member.1 ≡ is_some (content.balances member.0.account))

-- the next top-up, and whether a balance is kept for its account
abbrev pub IsNextVoucher : List Plan → Content → Option (List ℕ) → Option (TopUpFacts × Bool)
    → Type 0
IsNextVoucher plans content after None = IsNextTopUp content after None
IsNextVoucher plans content after (Some member) =
    IsNextTopUp content after (Some member.0)
    × (member.1 ≡ is_some (content.balances member.0.account))

-- what is found of a session, by whether a balance is kept for its account
abbrev pub session_found : RowFacts → Bool → List Finding
session_found row kept = if kept then [] else StraySession row ∷ []

abbrev pub voucher_found : TopUpFacts → Bool → List Finding
voucher_found topup kept = if kept then [] else StrayVoucher topup ∷ []
