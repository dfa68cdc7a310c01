-- The names of a book's files, which are looked at again and again.
use Rattle.std.specs.Prelude.{◌≡◌, ◌↔◌, ℕ, None, Some, Option, Bool, true, false, IsTrue}
use Rattle.std.specs.Prelude.{unwrap_or}
use Rattle.acct_program_commands.specs.declared.book_names.BookNames.{BookNames}
use Rattle.acct_program_commands.specs.declared.book_names.FileNumber.{FileNumber}
use Rattle.acct_program_commands.specs.declared.book_names.Name.{Name}
use Rattle.acct_program_commands.specs.declared.book_names.Target.{Target}
use Rattle.acct_program_commands.specs.declared.book_names.Target.TheVariants as target

-- the file to which a name led first, after a look at it: it is known for good, once it is known
abbrev pub first_after : Option FileNumber → Target → Option FileNumber
first_after None (target.File file) = Some file
first_after None target.Nothing = None
first_after None target.Unknown = None
first_after (Some first) found = Some first

-- whether a name that led to this file first leads to another one, or to none: not known if the look
-- failed
abbrev pub LeadsElsewhere : Option FileNumber → Target → Option Bool → Type 0
LeadsElsewhere first target.Unknown says = says ≡ None
LeadsElsewhere None target.Nothing says = says ≡ Some false
LeadsElsewhere (Some first) target.Nothing says = says ≡ Some true
LeadsElsewhere None (target.File file) says = says ≡ Some false
LeadsElsewhere (Some first) (target.File file) None = ⊥
LeadsElsewhere (Some first) (target.File file) (Some is_away) = IsTrue is_away ↔ ¬ (file ≡ first)

-- a look at a name, which stays, and what it says
pub record LooksAtName (old new : Name) (says : Option Bool) : Type 0 where
  pub path : new.path ≡ old.path
  pub first : new.first ≡ first_after old.first new.target
  pub leads : LeadsElsewhere old.first new.target says

-- Whether one of two names leads to another file, or to none. If neither is known to, and of one
-- it is not known, nothing is.
abbrev pub away_of : Option Bool → Option Bool → Option Bool
away_of (Some true) log = Some true
away_of (Some false) (Some log) = Some log
away_of (Some false) None = None
away_of None (Some true) = Some true
away_of None (Some false) = None
away_of None None = None

-- What is known of a book's names: where each led first and last, when they were looked at, and
-- whether one leads elsewhere.
pub record NamesSeen : Type 0 where
  pub book : Name
  pub log : Name
  pub looked_at : Option ℕ
  pub is_away : Bool

abbrev pub seen_of : {R : Type 0} → BookNames R → NamesSeen
seen_of names = record {
  book = names.book;
  log = names.log;
  looked_at = names.looked_at;
  is_away = names.is_away;
}

-- A look at both names. If nothing is known by it, all stays as it was.
pub record LooksAtNames (old new : NamesSeen) : Type 0 where
  pub book_says : Option Bool
  pub log_says : Option Bool
  pub book : LooksAtName old.book new.book book_says
  pub log : LooksAtName old.log new.log log_says
  pub away : new.is_away ≡ unwrap_or (away_of book_says log_says) old.is_away

-- They are looked at once in a second of the clock.
pub record LooksOnceAt (moment : ℕ) (old new : NamesSeen) : Type 0 where
  pub looked : new.looked_at ≡ Some moment
  pub again : old.looked_at ≡ Some moment → new ≡ old
  pub anew : ¬ (old.looked_at ≡ Some moment) → LooksAtNames old new
