-- What a server does between slices of turns.
use Rattle.std.specs.Prelude.{◌≡◌, ℕ, Bool, false, List, [], ◌∷◌, Option, Some, None}
use Rattle.acct_model.specs.declared.plan.Plan.{Plan}
use Rattle.acct_site.specs.declared.config.Config.{Config}
use Rattle.acct_service.specs.Told.{Grows}
use Rattle.acct_program_commands.specs.Fresh.{IsDue}
use Rattle.acct_program_commands.specs.Names.{NamesSeen, LooksOnceAt, seen_of}
use Rattle.acct_program_commands.specs.NewSite.{PollsAndTakes}
use Rattle.acct_program_commands.specs.Sights.{Poll}
use Rattle.acct_program_commands.specs.Unwritten.{Rewrites}
use Rattle.acct_program_commands.specs.declared.balances_file.KeptBalances.{KeptBalances}
use Rattle.acct_program_commands.specs.declared.book_names.BookNames.{BookNames}
use Rattle.acct_program_commands.specs.declared.fresh_file.FreshFile.{FreshFile}

-- What a round goes on from: the file of the text, if it is in one, what its polls and the clock
-- have shown, the file of balances, if there is one, and what is known of the book's names, if they
-- are looked at.
pub record RoundState : Type 0 where
  pub file : Option (List ℕ)
  pub polls : Option (List Poll)
  pub moments : Option (List ℕ)
  pub balances : Option FreshFile
  pub names : Option NamesSeen

abbrev pub file_of : {R : Type 0} → Option (KeptBalances R) → Option FreshFile
file_of None = None
file_of (Some kept) = Some kept.file

abbrev pub names_of : {R : Type 0} → Option (BookNames R) → Option NamesSeen
names_of None = None
names_of (Some names) = Some (seen_of names)

-- one of these is known to lead elsewhere
abbrev pub are_away : Option NamesSeen → Bool
are_away None = false
are_away (Some names) = names.is_away

-- the book's names were looked at at this moment, if they are to be
abbrev pub LooksAt : ℕ → Option NamesSeen → Option NamesSeen → Type 0
LooksAt moment None new = new ≡ None
LooksAt moment (Some old) None = ⊥
LooksAt moment (Some old) (Some new) = LooksOnceAt moment old new

-- the file of balances, if there is one, was written at this moment if it was due, and else not
abbrev pub KeepsAt : (List ℕ → Type 0) → ℕ → Option FreshFile → Option FreshFile → Type 0
KeepsAt IsPut moment None new = new ≡ None
KeepsAt IsPut moment (Some old) None = ⊥
KeepsAt IsPut moment (Some old) (Some new) =
    (IsDue old.pause old.begun_at moment
    → (is_long : Bool) × Rewrites is_long IsPut moment old new)
    × (¬ IsDue old.pause old.begun_at moment → new ≡ old)

-- Between two slices the clock is read once. At that moment the file of balances is written if it is
-- due, the book's names are looked at, and the text is polled, from which this was taken.
pub record GoesRound (IsPut : List ℕ → Type 0) (plans : List Plan) (old : RoundState)
    (gave : Option Config) (new : RoundState) : Type 0 where
  pub moment : ℕ
  pub reads : Grows old.moments (moment ∷ []) new.moments
  pub keeps : KeepsAt IsPut moment old.balances new.balances
  pub looks : LooksAt moment old.names new.names
  pub same : new.file ≡ old.file
  pub takes : PollsAndTakes moment plans old.file old.polls gave new.polls
