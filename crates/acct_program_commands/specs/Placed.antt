-- What was written into a file that was put in the place of another one.
use Rattle.std.specs.Prelude.{◌≡◌, ◌&&◌, ℕ, ℤ, Bool, List, None, length, nat_lt, not}
use Rattle.acct_book.specs.Content.{Content}
use Rattle.acct_book.specs.Maps.{octets_cmp}
use Rattle.acct_book.specs.Walk.{AreAllPast}
use Rattle.acct_files.specs.Exporting.{export_text, account_header, account_line}
use Rattle.acct_files.specs.declared.account_lines.AccountExport.TheVariants as which
use Rattle.acct_program_commands.specs.Figures.{figures_text}
use Rattle.acct_program_commands.specs.declared.figures.Figures.{Figures}

-- what `export balances` prints of these accounts with their balances
abbrev pub balances_text : List (List ℕ × ℤ) → List ℕ
balances_text entries = export_text (account_header which.Balances)
    (λ e. account_line which.Balances e.0 e.1) entries

-- A file was put in its place. `Put` has the text that was written into it, and nothing else was.
module _ (Put : List ℕ → Type 0) where
  -- some text
  abbrev pub IsPut : Type 0
  IsPut = (text : List ℕ) × Put text

  -- All that `export balances` prints of a content. `told` means that the book is open, so that its
  -- content is known.
  abbrev pub PutsBalances : Content → Type 0 → Type 0
  PutsBalances content told =
      (entries : List (List ℕ × ℤ)) × (told → AreAllPast octets_cmp content.balances None entries)
      × Put (balances_text entries)

  -- The same, of so many accounts.
  abbrev pub PutsAccounts : ℕ → Content → Type 0 → Type 0
  PutsAccounts count content told =
      (entries : List (List ℕ × ℤ)) × (told → AreAllPast octets_cmp content.balances None entries)
      × Put (balances_text entries) × (length entries ≡ count)

-- whether a write took long: it did not fail, and wrote more accounts than this
abbrev pub took_long : Bool → ℕ → Bool
took_long has_failed count = not has_failed && nat_lt 10000 count

-- A file with the text of these figures was put in its place.
pub record PutsFigures (Put : List ℕ → Type 0) (figures : Figures) : Type 0 where
  pub put : Put (figures_text figures)
