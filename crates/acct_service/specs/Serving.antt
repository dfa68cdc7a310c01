-- What a server does in its turns: a run of the machine, over a book, recorded by the exchange, and
-- counted.
use Rattle.std.specs.Prelude.{◌≡◌, ◌≢◌, ◌⊎◌, ◌+◌, ◌≤◌, ℕ, Bool, true, false, ◌==◌, ◌||◌, List, []}
use Rattle.std.specs.Prelude.{◌∷◌, Option, None, map, length, count_by, Contains}
use Rattle.std.specs.List.{flat_map, list_any}
use Rattle.acct_model.specs.declared.plan.Plan.{Plan}
use Rattle.acct_model.specs.declared.entry.Entry.{Entry}
use Rattle.acct_model.specs.History.{History}
use Rattle.acct_book.specs.declared.book.Book.{Ghosts}
use Rattle.acct_book.specs.Content.{Content}
use Rattle.acct_book.specs.Effect.{failed}
use Rattle.acct_book.specs.Stands.{Stands}
use Rattle.acct_book.specs.Step.{MayAdd, StoodFor}
use Rattle.acct_wire.specs.declared.reason.Reason.{Reason}
use Rattle.acct_wire.specs.Reasons.{reason_number, count_for}
use Rattle.acct_desk_pages.specs.Responses.{unavailable_response}
use Rattle.acct_site.specs.declared.config.Config.{Config}
use Rattle.acct_service.specs.declared.event.Event.{Event}
use Rattle.acct_service.specs.declared.exchange.Call.{Call}
use Rattle.acct_service.specs.declared.exchange.Call.TheVariants as call
use Rattle.acct_service.specs.declared.server.Served.{Served}
use Rattle.acct_service.specs.Machine.{Answer, replied, dropped, mute, AsksBalance, IsAnswered}
use Rattle.acct_service.specs.Machine.{Visit, Run, answers_datagram}
use Rattle.acct_service.specs.Told.{Grows, reply_asked, drop_told}

-- ---- calls

-- the call with the answer to an event: a requested reply, or a drop with its reason
abbrev pub told_answer : Event → Answer → Bool → List Call
told_answer event (replied octets) is_taken = call.Asked (reply_asked event octets is_taken) ∷ []
told_answer event (dropped reason) is_taken = drop_told event reason
told_answer event mute is_taken = []

-- The calls of a visit. The exchange returned its event. At once, before any other event, it was
-- asked to send the octets of its answer, or notified why it was dropped.
abbrev pub calls_of : Visit → List Call
calls_of visit = call.Gave visit.event ∷ told_answer visit.event visit.answer visit.is_taken

-- ---- counts

abbrev pub takes_reply : Answer → Bool → Bool
takes_reply (replied octets) is_taken = is_taken
takes_reply (dropped reason) is_taken = false
takes_reply mute is_taken = false

-- it was answered with a reply, and the exchange took it
abbrev pub is_replied : Visit → Bool
is_replied visit = takes_reply visit.answer visit.is_taken

abbrev pub drops_for : Reason → Answer → Bool
drops_for reason (replied octets) = false
drops_for reason (dropped other) = reason_number other == reason_number reason
drops_for reason mute = false

-- it was dropped for this reason
abbrev pub is_dropped_for : Reason → Visit → Bool
is_dropped_for reason visit = drops_for reason visit.answer

abbrev pub mutes : Answer → Bool
mutes (replied octets) = false
mutes (dropped reason) = false
mutes mute = true

-- there was no memory for its response
abbrev pub is_mute : Visit → Bool
is_mute visit = mutes visit.answer

-- its datagram was answered with a reply, taken or not
abbrev pub is_answered : Visit → Bool
is_answered visit = answers_datagram visit.event.what visit.answer

-- each count is that of the visits that it is named for
pub record Counts (visits : List Visit) (served : Served) : Type 0 where
  pub events : served.events ≡ length visits
  pub replies : served.replies ≡ count_by is_replied visits
  pub dropped : (reason : Reason)
      → count_for served.dropped reason ≡ count_by (is_dropped_for reason) visits
  pub mute : served.mute ≡ count_by is_mute visits

-- the counts rose by those of these visits
pub record CountsMore (visits : List Visit) (old new : Served) : Type 0 where
  pub events : new.events ≡ old.events + length visits
  pub replies : new.replies ≡ old.replies + count_by is_replied visits
  pub dropped : (reason : Reason)
      → count_for new.dropped reason
      ≡ count_for old.dropped reason + count_by (is_dropped_for reason) visits
  pub mute : new.mute ≡ old.mute + count_by is_mute visits

-- no count is above n
pub record AtMost (n : ℕ) (served : Served) : Type 0 where
  pub events : served.events ≤ n
  pub replies : served.replies ≤ n
  pub dropped : (reason : Reason) → count_for served.dropped reason ≤ n
  pub mute : served.mute ≤ n
  pub faults : served.faults ≤ n

-- ---- the book

-- the entry of a visit whose call returned Unavailable
abbrev pub HasFailed : List Visit → Entry → Type 0
HasFailed visits asked = Contains (map (λ visit. visit.effect) visits) (failed asked)

-- the content stands for the history, or for it with one of these entries, which may be accepted
abbrev pub MayLeave : List Plan → History → (Entry → Type 0) → Content → Type 0
MayLeave plans history Tried content =
    Stands plans content history
    ⊎ ((asked : Entry) × Tried asked × MayAdd plans history asked content)

-- a book that is sound, or open, afterwards was so before, and a steady book stays steady
pub record Keeps {B : Type 0} (b : Ghosts B) (old new : B) : Type 0 where
  pub was_sound : b.is_sound new → b.is_sound old
  pub was_open : b.is_open new → b.is_open old
  pub keeps_steady : b.is_steady old → b.is_steady new

-- ---- the headline

-- What the visits did to a history, over a book whose content stood for it by these plans.
pub record Leads {B : Type 0} (b : Ghosts B) (plans : List Plan) (visits : List Visit) (old new : B)
    (history : History) : Type 0 where
  pub after : History
  -- they are a run of the machine, from this history to the one after it
  pub run : Run plans history visits after
  -- the book's content stands for the history after the run, while the book is open
  pub stands : StoodFor b plans new after
  -- What a crash leaves now stands for the history after the run, or for that with the entry of a
  -- visit whose call failed. What was answered stays. If nothing was accepted, it may also be what
  -- a crash could leave before.
  pub leaves : (c : Content) → b.left new c
      → MayLeave plans after (HasFailed visits) c ⊎ ((after ≡ history) × b.left old c)

-- The visits of a server's turns over a book, under configurations with these plans.
pub record Attends {B : Type 0} (b : Ghosts B) (plans : List Plan) (visits : List Visit)
    (old new : B) (old_told new_told : Option (List Call)) : Type 0 where
  -- each event is answered as the machine may answer it, with any content of the book
  pub answered : (visit : Visit) → Contains visits visit → IsAnswered visit
  -- from each history for which the content stood
  pub leads : b.is_sound new → (history : History) → StoodFor b plans old history
      → Leads b plans visits old new history
  pub keeps : Keeps b old new
  -- over a steady book no response says that a balance is unavailable
  pub steady : b.is_steady old → (visit : Visit) → Contains visits visit
      → AsksBalance visit.site visit.event.moment visit.event.what
      → visit.answer ≢ replied unavailable_response
  -- the exchange returned only these events, was asked for only these replies and notified of only
  -- these drops, each between its event and the next
  pub told : Grows old_told (flat_map calls_of visits) new_told

-- it was answered under this configuration, with this limit on the age of a report
abbrev pub IsUnder : Option ℕ → Config → Visit → Type 0
IsUnder oldest config visit = (visit.site ≡ config) × (visit.oldest ≡ oldest)

-- all were
abbrev pub AreUnder : Option ℕ → Config → List Visit → Type 0
AreUnder oldest config visits =
    (visit : Visit) → Contains visits visit → IsUnder oldest config visit

-- A turn: one visit, or none if nothing was received. It is kept whether a datagram was answered, in
-- this turn or before.
pub record TakesTurn {B : Type 0} (b : Ghosts B) (oldest : Option ℕ) (config : Config) (old new : B)
    (old_told new_told : Option (List Call)) (old_served new_served : Served)
    (had_answered has_answered : Bool) : Type 0 where
  pub visits : List Visit
  pub at_most_one : length visits ≤ 1
  pub under : AreUnder oldest config visits
  pub attends : Attends b config.plans visits old new old_told new_told
  pub counts : CountsMore visits old_served new_served
  pub answered : has_answered ≡ (list_any is_answered visits || had_answered)

-- Turns, whose visits were added to the counts. It is kept whether a datagram was answered, in them
-- or before.
pub record TakesTurns {B : Type 0} (b : Ghosts B) (oldest : Option ℕ) (config : Config) (old new : B)
    (old_told new_told : Option (List Call)) (old_served new_served : Served)
    (had_answered has_answered : Bool) : Type 0 where
  pub visits : List Visit
  pub under : AreUnder oldest config visits
  pub attends : Attends b config.plans visits old new old_told new_told
  pub counts : CountsMore visits old_served new_served
  pub answered : has_answered ≡ (list_any is_answered visits || had_answered)

-- turns, as many as there were, for reports of any age
pub record Serves {B : Type 0} (b : Ghosts B) (config : Config) (old new : B)
    (old_told new_told : Option (List Call)) (served : Served) : Type 0 where
  pub visits : List Visit
  pub under : AreUnder None config visits
  pub attends : Attends b config.plans visits old new old_told new_told
  pub counts : Counts visits served
