-- The files that a server writes, and what its rounds begin with.
use Rattle.std.specs.Prelude.{◌≡◌, ⊤, List, [], ◌∷◌, ℕ, Option, Some, None, IsSomeAnd}
use Rattle.std.specs.Prelude.{Bool, Result, Ok, Err, true, false}
use Rattle.acct_program_args.specs.declared.job.BalancesFile.{BalancesFile}
use Rattle.acct_program_commands.specs.Names.{LooksAtNames, NamesSeen, seen_of}
use Rattle.acct_program_commands.specs.Rounds.{RoundState}
use Rattle.acct_program_commands.specs.Sights.{Poll}
use Rattle.acct_program_commands.specs.Tally.{no_tally}
use Rattle.acct_program_commands.specs.Unwritten.{unwritten, Rewrites}
use Rattle.acct_program_commands.specs.declared.balances_file.KeptBalances.{KeptBalances}
use Rattle.acct_program_commands.specs.declared.book_names.BookNames.{BookNames}
use Rattle.acct_program_commands.specs.declared.fresh_file.FreshFile.{FreshFile}
use Rattle.acct_program_commands.specs.declared.status_file.StatusFile.{StatusFile}
use Rattle.acct_service.specs.Told.{Grows}

-- The file of all balances is the one that was named, with its seconds, if one was: its owner may
-- write it and its group may read it.
abbrev pub IsKept : {R : Type 0} → Option BalancesFile → Option (KeptBalances R) → Type 0
IsKept None None = ⊤
IsKept None (Some kept) = ⊥
IsKept (Some named) None = ⊥
IsKept (Some named) (Some kept) = kept.file ≡ unwritten named.file 0o640 named.seconds

-- The file of the counts is the one that was named, if one was: everyone may read it, and it stays
-- for ten seconds. Nothing is counted yet, and the size of this book is shown.
abbrev pub IsCounted : {R E : Type 0} → Option (List ℕ) → List ℕ → Option (StatusFile R E) → Type 0
IsCounted None book None = ⊤
IsCounted None book (Some counts) = ⊥
IsCounted (Some name) book None = ⊥
IsCounted (Some name) book (Some counts) = (counts.file ≡ unwritten name 0o644 10)
    × (counts.meter.tally ≡ no_tally) × (counts.reports ≡ 0) × (counts.state.book ≡ book)

-- the file of all balances is the one that was named, and was written at this moment
abbrev pub HasKept : (List ℕ → Type 0) → Option BalancesFile → ℕ → Option FreshFile → Type 0
HasKept IsPut None moment None = ⊤
HasKept IsPut None moment (Some kept) = ⊥
HasKept IsPut (Some named) moment None = ⊥
HasKept IsPut (Some named) moment (Some kept) =
    (is_long : Bool) × Rewrites is_long IsPut moment (unwritten named.file 0o640 named.seconds) kept

-- what was known of a book's names before it was opened, if there was memory for them
abbrev pub seen_before : {R E : Type 0} → Result (BookNames R) E → Option NamesSeen
seen_before (Ok names) = Some (seen_of names)
seen_before (Err told) = None

-- The book has this name. Its names were looked at once, and none is known to lead elsewhere.
abbrev pub IsNamed : List ℕ → NamesSeen → Type 0
IsNamed book names =
    (names.book.path ≡ book) × (names.looked_at ≡ None) × (names.is_away ≡ false)

-- Names were looked at again as the server began, and none is known to lead elsewhere since.
pub record LeadAsBefore (before now : NamesSeen) : Type 0 where
  pub looked : LooksAtNames before now
  pub unnoted : now.looked_at ≡ before.looked_at
  pub here : now.is_away ≡ false

-- Names were looked at again, and one leads elsewhere.
abbrev pub HaveMoved : NamesSeen → Type 0
HaveMoved before = (now : NamesSeen) × LooksAtNames before now × (now.is_away ≡ true)

-- Before the first round the clock was read once. At that moment the file of balances that was
-- named was written. The text is in this file and was not polled. The names of the book lead where
-- they led before it was opened.
pub record Begins (IsPut : List ℕ → Type 0) (named : Option BalancesFile) (file : Option (List ℕ))
    (polls : Option (List Poll)) (moments : Option (List ℕ)) (before : NamesSeen)
    (begun : RoundState) : Type 0 where
  pub text : begun.file ≡ file
  pub moment : ℕ
  pub reads : Grows moments (moment ∷ []) begun.moments
  pub keeps : HasKept IsPut named moment begun.balances
  pub unpolled : begun.polls ≡ polls
  pub names : IsSomeAnd begun.names (LeadAsBefore before)
