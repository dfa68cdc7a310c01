-- What `forward` does.
use Rattle.std.specs.Prelude.{◌≡◌, ◌⊎◌, ◌≤◌, ℕ, ◌+◌, ◌-◌, ◌*◌, Bool, true, false}
use Rattle.std.specs.Prelude.{Option, Some, None, bytes_eq}
use Rattle.std.specs.Prelude.{IfSome, Result, List}
use Rattle.std.specs.List.{list_any}
use Rattle.acct_model.specs.declared.plan.Plan.{Plan}
use Rattle.acct_book.specs.declared.book.Book.{Ghosts}
use Rattle.acct_book_forward.specs.Carrying.{SelectionFacts, CarriesOn, is_line}
use Rattle.acct_book.specs.Content.{Content, key_of}
use Rattle.acct_book.specs.Row.{RowFacts}
use Rattle.acct_book.specs.Step.{OnlyLooks}
use Rattle.acct_program_args.specs.declared.job.Carrying.{Carrying}
use Rattle.acct_program_args.specs.declared.job.Cutoff.{Cutoff}
use Rattle.acct_program_args.specs.declared.job.Cutoff.TheVariants.{Before, At}
use Rattle.acct_program_args.specs.Orders.{seconds_of}
use Rattle.acct_program_commands.specs.declared.fault.Fault.{Fault}
use Rattle.acct_program_commands.specs.declared.fault.Fault.TheVariants as fault
use Rattle.acct_program_commands.specs.declared.fault.StoreFault.TheVariants as store

-- the moment from which ended sessions stay: so many days of 86,400 seconds before now
abbrev pub cutoff_at : ℕ → Cutoff → ℕ
cutoff_at now (Before days) = now - days * 86400
cutoff_at now (At moment) = moment

-- the moment from which open sessions stay: all of them do if there are no days
abbrev pub silence_at : ℕ → Option ℕ → ℕ
silence_at now None = 0
silence_at now (Some days) = now - days * 86400

-- what is carried at a moment
abbrev pub selected : Carrying → ℕ → SelectionFacts
selected carrying now = record {
  ended_before = cutoff_at now carrying.cutoff;
  silent_before = silence_at now carrying.silent;
  kept = carrying.kept.items;
}

-- both moments are so many seconds before now, or more
abbrev pub LieBack : SelectionFacts → ℕ → ℕ → Type 0
LieBack selection seconds now =
    (selection.ended_before + seconds ≤ now) × (selection.silent_before + seconds ≤ now)

-- Both are 30 days back, and as far back as the oldest report that a server of the book accepts.
abbrev pub LieFarBack : SelectionFacts → Option ℕ → ℕ → Type 0
LieFarBack selection oldest now =
    LieBack selection (30 * 86400) now × IfSome (seconds_of oldest) (λ s. LieBack selection s now)

abbrev pub LiesFarBack : Carrying → ℕ → Type 0
LiesFarBack carrying now = LieFarBack (selected carrying now) carrying.oldest_report now

-- A session was last heard of between 1 and 8 days before a moment. A clock that jumps has none at
-- first, if no late report comes: what reports after the jump was heard of just now, and all else
-- long ago. It is no line, and not of a client whose sessions stay: these may be no devices.
pub record IsHeardAt (selection : SelectionFacts) (row : RowFacts) (moment : ℕ) : Type 0 where
  pub no_line : is_line row.client ≡ false
  pub not_kept : list_any (bytes_eq row.client) selection.kept ≡ false
  pub past : row.last + 86400 ≤ moment
  pub late : moment ≤ row.last + 8 * 86400

-- such a session was found
abbrev pub IsHeardOf : SelectionFacts → Option RowFacts → ℕ → Type 0
IsHeardOf selection found moment =
    (row : RowFacts) × (found ≡ Some row) × IsHeardAt selection row moment

-- such a session is in the book
abbrev pub IsHeardIn : SelectionFacts → Content → ℕ → Type 0
IsHeardIn selection content moment = (row : RowFacts) × (content.rows (key_of row) ≡ Some row)
    × IsHeardAt selection row moment

-- What a clock says, and when it says that files were last changed: at most 7 days before, and at
-- most a day after.
pub record Agrees (moment written_at : ℕ) : Type 0 where
  pub old : moment ≤ written_at + 7 * 86400
  pub new : written_at ≤ moment + 86400

-- the clock agrees with what the book says, and with what its files say
pub record IsTimely (selection : SelectionFacts) (content : Content) (moment written_at : ℕ)
    : Type 0 where
  pub heard : IsHeardIn selection content moment
  pub changed : Agrees moment written_at

-- Sessions may be carried: none would be, somebody confirmed the clock, or it is timely.
abbrev pub MayCarry : {B : Type 0} → Ghosts B → SelectionFacts → B → Bool → ℕ → ℕ → ℕ → Type 0
MayCarry b selection book is_sure moment written_at carried = (carried ≡ 0)
    ⊎ ((is_sure ≡ true)
    ⊎ (b.is_sound book → IsTimely selection (b.content book) moment written_at))

-- the book failed, or an allocation or the output did
abbrev pub IsListFault : Fault → Type 0
IsListFault told =
    (told ≡ fault.Store store.Unavailable) ⊎ ((told ≡ fault.NoMemory) ⊎ (told ≡ fault.CannotWrite))

-- nobody confirmed the clock, and it may be wrong: no session tells, or the files do not agree
abbrev pub IsClockFault : Bool → ℕ → ℕ → Fault → Type 0
IsClockFault is_sure now written_at told = (is_sure ≡ false)
    × ((told ≡ fault.ClockAhead) ⊎ ((told ≡ fault.ClockApart) × ¬ Agrees now written_at))

-- a moment is less than 30 days back, or not as far as a server of the book accepts reports
abbrev pub IsCutoffFault : SelectionFacts → Option ℕ → ℕ → Fault → Type 0
IsCutoffFault selection oldest now told =
    ((told ≡ fault.CutoffTooLate) × ¬ LieBack selection (30 * 86400) now)
    ⊎ ((told ≡ fault.CutoffInReach)
    × ¬ IfSome (seconds_of oldest) (λ s. LieBack selection s now))

-- why a run of `forward` ended early
abbrev pub IsForwardFault : Carrying → ℕ → ℕ → Fault → Type 0
IsForwardFault carrying now written_at told =
    IsCutoffFault (selected carrying now) carrying.oldest_report now told
    ⊎ (IsClockFault carrying.is_sure now written_at told ⊎ IsListFault told)

-- A run of `forward` at a moment, over files that were last changed at another one. The requested
-- sessions were carried, as far as the run got. None were if this was a dry run, if late reports of
-- them may still arrive, or if the clock may be wrong. It may be wrong if nobody confirmed it, and
-- it does not agree with the book and with its files.
pub record Forwards {B T E : Type 0} (b : Ghosts B) (plans : List Plan) (carrying : Carrying)
    (moment written_at : ℕ) (old new : B) (ended : Result T E) : Type 0 where
  pub carries : CarriesOn b (selected carrying moment) plans old new ended
  pub dry : carrying.is_dry ≡ true → OnlyLooks b old new
  pub far : OnlyLooks b old new ⊎ LiesFarBack carrying moment
  pub timely : OnlyLooks b old new
      ⊎ ((carrying.is_sure ≡ true)
      ⊎ (b.is_sound new → IsTimely (selected carrying moment) (b.content old) moment written_at))
