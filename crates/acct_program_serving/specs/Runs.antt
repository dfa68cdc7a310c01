-- A run of a server over an exchange, and what is printed of it.
use Rattle.std.specs.Prelude.{◌≡◌, ◌<◌, ℕ, List, [], ◌∷◌, ◌++◌, ◌+◌, ◌-◌, ◌==◌, if◌then◌else◌}
use Rattle.std.specs.Prelude.{Option, codes, flat_map}
use Rattle.acct_book.specs.declared.book.Book as book
use Rattle.acct_site.specs.declared.config.Config.{Config}
use Rattle.acct_service.specs.declared.exchange.Exchange as exchange
use Rattle.acct_service.specs.Slices.{Slice, MakesTurns, ServesInSlices}
use Rattle.acct_service.specs.declared.server.Served.{Served}
use Rattle.acct_service.specs.declared.slices.Until.{Until}
use Rattle.acct_service.specs.declared.slices.Until.TheVariants as until
use Rattle.acct_wire.specs.Reasons.{reason_number, count_for, all_reasons}
use Rattle.acct_wire.specs.declared.reason.Reason.{Reason}
use Rattle.acct_wire.specs.declared.reason.Reason.TheVariants as reason
use Rattle.acct_program_serving.specs.Counts.{counts_text, drops_text}
use Rattle.acct_program_serving.specs.declared.counts.Counts.{Counts}
use Rattle.acct_program_serving.specs.declared.counts.Drops.{Drops}

-- the totals, without the drops
abbrev pub counts_of : Served → Counts
counts_of served = record {
  events = served.events;
  replies = served.replies;
  mute = served.mute;
  faults = served.faults;
}

-- how often there were drops for a reason
abbrev pub drops_of : List ℕ → Reason → Drops
drops_of dropped why = record { reason = reason_number why; count = count_for dropped why }

-- a line for the drops of one reason, if there were some
abbrev pub drops_line : List ℕ → Reason → List ℕ
drops_line dropped why =
    if count_for dropped why == 0 then [] else drops_text (drops_of dropped why) ++ 10 ∷ []

-- those of each of these reasons
abbrev pub drops_lines : List ℕ → List Reason → List ℕ
drops_lines dropped reasons = flat_map (drops_line dropped) reasons

-- all lines of the counts
abbrev pub served_text : Served → List ℕ
served_text served =
    counts_text (counts_of served) ++ 10 ∷ [] ++ drops_lines served.dropped all_reasons

-- all that a server prints
abbrev pub whole_text : Served → List ℕ
whole_text served = codes "serving" ++ 10 ∷ [] ++ served_text served

-- A run of a server over a book and an exchange, from its first turn to its last.
module _ {B X : Type 0} (b : book.Ghosts B) (x : exchange.Ghosts X) where
  -- It made so many turns of the exchange: all, or fewer if the book was found shut or failed for
  -- each report of a slice, or a round ended them. A steady book is never found shut. A sound book that is not open was
  -- found shut. The turns are a run of the machine in slices, each under its own configuration.
  -- These are the counts of that run. The rounds between the slices went this way. In all slices a
  -- report could be at most so many seconds old, if that was limited.
  pub record Ran (oldest : Option ℕ) (config : Config) (turns : ℕ) (Went : List Slice → Type 0) (old new : B)
      (first last : X) (served : Served) (why : Until) : Type 0 where
    pub turns_made : MakesTurns turns (x.turn_count first) (x.turn_count last) why
    pub shut : why ≡ until.Shut → b.is_steady old → ⊥
    pub stuck : why ≡ until.Stuck → 0 < count_for served.dropped reason.Unavailable
    pub open_is : why ≡ until.AllMade → 0 < turns → b.is_sound new → b.is_open new
    pub faults : x.failure_count last ≡ x.failure_count first + served.faults
    pub run : ServesInSlices b oldest config turns old new (x.told first) (x.told last) Went
        (x.turn_count last - x.turn_count first) served why
