-- The walk of a survey over the accounts of a book, and what it prints of a row.
use Rattle.std.specs.Prelude.{ℕ, ℤ, Bool, List, [], Option, Some, None, option_map}
use Rattle.std.specs.Prelude.{if◌then◌else◌, Vec}
use Rattle.std.specs.Global.{Global}
use Rattle.acct_book.specs.Content.{Content}
use Rattle.acct_book.specs.Row.{RowFacts}
use Rattle.acct_book.specs.Walk.{AreRowsOf, IsNextBalance}
use Rattle.acct_book_forward.specs.Carrying.{SelectionFacts}
use Rattle.acct_book_forward.specs.declared.forwarding.Tally.{Tally}
use Rattle.acct_program_commands.specs.Survey.{open_line}

-- the octets of a vector, if there is one
abbrev pub octets_in : Option (Vec ℕ Global) → Option (List ℕ)
octets_in after = option_map (λ a. a.items) after

-- this account is the next after another, with some balance, or there is none
abbrev pub IsNextAccount : Content → Option (Vec ℕ Global) → Option (Vec ℕ Global) → Type 0
IsNextAccount content after None = IsNextBalance content (octets_in after) None
IsNextAccount content after (Some account) =
    (balance : ℤ) × IsNextBalance content (octets_in after) (Some (account.items, balance))

-- an account, its balance and its rows
abbrev pub Member : Type 0
Member = Vec ℕ Global × ℤ × List RowFacts

-- the next account with its rows, or there is none
abbrev pub IsNextMember : Content → Option (Vec ℕ Global) → Option Member → Type 0
IsNextMember content after None = IsNextBalance content (octets_in after) None
IsNextMember content after (Some member) =
    IsNextBalance content (octets_in after) (Some (member.0.items, member.1))
    × AreRowsOf content member.0.items member.2

-- what is printed of a row, if open sessions are listed
abbrev pub row_text : Bool → SelectionFacts → RowFacts → List ℕ
row_text lists selection row = if lists then open_line selection row else []

-- the same of a row that was found, if one was
abbrev pub found_text : Bool → SelectionFacts → Option RowFacts → List ℕ
found_text lists selection None = []
found_text lists selection (Some row) = row_text lists selection row

-- how many sessions of an account were carried, if there was one
abbrev pub carried_of : Option (Vec ℕ Global × Tally) → ℕ
carried_of None = 0
carried_of (Some carried) = carried.1.carried
