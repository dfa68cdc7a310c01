-- Turns in slices. How many a server makes until its book is shut, and which configuration each
-- slice has, if clients and keys change in between.
use Rattle.std.specs.Prelude.{◌≡◌, ◌≢◌, ◌+◌, ◌<◌, ◌≤◌, ⊤, ℕ, List, [], ◌∷◌, Option, None, Some, map}
use Rattle.std.specs.Prelude.{Contains, length, ◌++◌, ◌-◌, true, false, count_by, min}
use Rattle.std.specs.List.{flat_map, list_any, sum_by}
use Rattle.acct_model.specs.declared.plan.Plan.{Plan}
use Rattle.acct_model.specs.History.{History}
use Rattle.acct_book.specs.Content.{Content}
use Rattle.acct_book.specs.Stands.{Stands}
use Rattle.acct_book.specs.Step.{OnlyLooks}
use Rattle.acct_book.specs.declared.book.Book as book
use Rattle.acct_site.specs.declared.config.Config.{Config}
use Rattle.acct_service.specs.declared.exchange.Call.{Call}
use Rattle.acct_service.specs.declared.rounds.Rounds as rounds
use Rattle.acct_service.specs.declared.server.Served.{Served}
use Rattle.acct_service.specs.declared.slices.Until.{Until}
use Rattle.acct_service.specs.declared.slices.Until.TheVariants as until
use Rattle.acct_service.specs.Machine.{Visit, Run}
use Rattle.acct_service.specs.Serving.{Attends, AreUnder, Counts, is_answered, is_dropped_for}
use Rattle.acct_wire.specs.declared.reason.Reason.TheVariants as reason

-- so many of the allowed turns were made: all; or at least some, until the book was found shut, or
-- failed for each report of a slice, or a round ended the run
abbrev pub MakesTurns : ℕ → ℕ → ℕ → Until → Type 0
MakesTurns limit old new until.AllMade = new ≡ old + limit
MakesTurns limit old new until.Shut = (old < new) × (new ≤ old + limit)
MakesTurns limit old new until.Stuck = (old < new) × (new ≤ old + limit)
MakesTurns limit old new until.Over = (old < new) × (new ≤ old + limit)

-- A slice of turns: its configuration, its visits, the content of the book after them, if that is
-- open, and the configuration that the round after it returned, if any.
pub record Slice : Type 0 where
  pub site : Config
  -- how many turns it has; each gives one visit or none
  pub turns : ℕ
  pub visits : List Visit
  pub content : Content
  pub given : Option Config

-- the configuration after a round
abbrev pub site_then : Config → Option Config → Config
site_then site None = site
site_then site (Some other) = other

-- Each slice and all its visits have the configuration that was last returned by a round before it,
-- or else the first one. In all of them a report could be as old.
abbrev pub Follow : Option ℕ → Config → List Slice → Type 0
Follow oldest site [] = ⊤
Follow oldest site (slice ∷ later) =
    (slice.site ≡ site) × AreUnder oldest site slice.visits
    × Follow oldest (site_then site slice.given) later

-- Of the turns that are left a slice has 256, or all if fewer are left. It has no more visits than
-- turns.
abbrev pub AreFull : ℕ → List Slice → Type 0
AreFull left [] = ⊤
AreFull left (slice ∷ later) =
    (slice.turns ≡ min left 256) × (length slice.visits ≤ slice.turns)
    × AreFull (left - slice.turns) later

-- in these turns the book failed for a report, and no datagram was answered with a reply
abbrev pub AreStuck : List Visit → Type 0
AreStuck visits =
    (0 < count_by (is_dropped_for reason.Unavailable) visits) × (list_any is_answered visits ≡ false)

abbrev pub NoneStuck : List Slice → Type 0
NoneStuck [] = ⊤
NoneStuck (slice ∷ later) = (AreStuck slice.visits → ⊥) × NoneStuck later

-- After a slice whose turns are stuck no other follows. The run ends as stuck if, and only if, the
-- last one is, unless the book was found shut after it, or the round after it ended the run.
abbrev pub EndsSo : Until → List Slice → Type 0
EndsSo until.AllMade slices = NoneStuck slices
EndsSo until.Shut slices =
    (before : List Slice) × (last : Slice) × (slices ≡ before ++ last ∷ []) × NoneStuck before
EndsSo until.Over slices =
    (before : List Slice) × (last : Slice) × (slices ≡ before ++ last ∷ []) × NoneStuck before
EndsSo until.Stuck slices =
    (before : List Slice) × (last : Slice) × (slices ≡ before ++ last ∷ []) × NoneStuck before
    × AreStuck last.visits

-- the visits of all of them
abbrev pub visits_in : List Slice → List Visit
visits_in slices = flat_map (λ (slice : Slice). slice.visits) slices

-- what the rounds returned
abbrev pub given_in : List Slice → List (Option Config)
given_in slices = map (λ (slice : Slice). slice.given) slices

-- a content stands for the history to which these visits lead from another one
abbrev pub StandsAfter : List Plan → History → List Visit → Content → Type 0
StandsAfter plans history visits content =
    (after : History) × Run plans history visits after × Stands plans content after

-- So does the content after each of these slices, with all visits up to it. `seen` are those before
-- the first slice.
abbrev pub EachStandsAfter : List Plan → History → List Visit → List Slice → Type 0
EachStandsAfter plans history seen [] = ⊤
EachStandsAfter plans history seen (slice ∷ later) =
    StandsAfter plans history (seen ++ slice.visits) slice.content
    × EachStandsAfter plans history (seen ++ slice.visits) later

-- Slice by slice: its visits were attended over the book, and then the book was only read, by the
-- round and by a look at whether it is open. An open book had this content then. Another slice
-- follows only if a sound book is open.
abbrev pub GoOneByOne : {B : Type 0} → book.Ghosts B → List Plan → List Slice → B → B
    → Option (List Call) → Option (List Call) → Type 0
GoOneByOne b plans [] old new told later = (new ≡ old) × (later ≡ told)
GoOneByOne b plans (slice ∷ others) old new told later =
    (turned next : _) × (mid : Option (List Call)) × Attends b plans slice.visits old turned told mid
    × (slice.content ≡ b.content turned) × OnlyLooks b turned next
    × (others ≢ [] → b.is_sound next → b.is_open next)
    × GoOneByOne b plans others next new mid later

-- What that means, from each history for which the content stood, if the book is open at the end:
-- after each slice, and in the round after it, it stood for the history so far.
abbrev pub SlicesStand : {B : Type 0} → book.Ghosts B → Type 0
SlicesStand {B} b = (plans : List Plan) (slices : List Slice) (old new : B)
    (told later : Option (List Call)) → GoOneByOne b plans slices old new told later
    → b.is_open new → (history : History) → Stands plans (b.content old) history
    → EachStandsAfter plans history [] slices

-- The rounds after each of these slices, from first to last. None but the last ended the run. If the
-- book is open, they showed what it had then. In a slice that was to be silent nobody was heard.
abbrev pub GoRounds : {R : Type 0} → rounds.Ghosts R → Type 0 → R → List Slice → R → Type 0
GoRounds r is_open first [] last = first ≡ last
GoRounds r is_open first (slice ∷ later) last =
    (r.is_silent first ≡ true → slice.visits ≡ []) × (next : _)
    × r.goes first slice.site slice.given next
    × (is_open → r.shows first slice.site slice.content slice.given next)
    × (later ≢ [] → r.is_over next ≡ false) × GoRounds r is_open next later last

-- Turns in slices, each under its own configuration. Together they are what turns under one
-- configuration are, because all have the same plans. At most `limit` turns were allowed. The rounds
-- after the slices also went as stated.
pub record ServesInSlices {B : Type 0} (b : book.Ghosts B) (oldest : Option ℕ) (config : Config)
    (limit : ℕ) (old new : B) (old_told new_told : Option (List Call)) (Went : List Slice → Type 0) (turns : ℕ)
    (served : Served) (why : Until) : Type 0 where
  pub slices : List Slice
  -- each has 256 turns, but for a last one that is all that was left of the limit, and together they
  -- are the turns that were made
  pub full : AreFull limit slices
  pub made : sum_by (λ (slice : Slice). slice.turns) slices ≡ turns
  pub ends : EndsSo why slices
  pub follow : Follow oldest config slices
  -- no round returned other plans
  pub same_plans : (site : Config) → Contains (given_in slices) (Some site)
      → site.plans ≡ config.plans
  pub went : Went slices
  pub attends : Attends b config.plans (visits_in slices) old new old_told new_told
  pub one_by_one : GoOneByOne b config.plans slices old new old_told new_told
  pub counts : Counts (visits_in slices) served
