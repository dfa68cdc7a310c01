-- The machine: how an event may be answered, and what that does to the history. A history has the
-- newest first; lists of events and visits have the oldest first. A configuration's plans are those
-- in force at the end of the history: no plans are added while events arrive. Clients and keys may
-- change between two events, so each visit has the configuration that it was answered under.
use Rattle.std.specs.Prelude.{◌≡◌, ◌≢◌, ℕ, Bool, true, false, List, [], ◌∷◌, Option}
use Rattle.acct_model.specs.declared.plan.Plan.{Plan}
use Rattle.acct_model.specs.History.{History}
use Rattle.acct_book.specs.declared.book.Book.{Ghosts}
use Rattle.acct_book.specs.Effect.{Effect, looked, after_effect, Holds}
use Rattle.acct_book.specs.Step.{StoodFor, Does}
use Rattle.acct_wire.specs.declared.reason.Reason.{Reason}
use Rattle.acct_wire.specs.Outcomes.{RepliesWithin, DropsWithin}
use Rattle.acct_desk.specs.Asks.{Ask, Asks}
use Rattle.acct_desk_pages.specs.Responses.{unavailable_response}
use Rattle.acct_desk.specs.Handling.{AnswersAsk, Mutes, IsResponseOf, IsOfBalance}
use Rattle.acct_site.specs.declared.config.Config.{Config}
use Rattle.acct_service.specs.declared.event.What.{What}
use Rattle.acct_service.specs.declared.event.What.TheVariants.{Datagram, Desk}
use Rattle.acct_service.specs.declared.event.Event.{Event}
use Rattle.acct_service.specs.declared.stepping.Turn.{Turn}
use Rattle.acct_service.specs.declared.stepping.Turn.TheVariants as turn

-- ---- answers

-- how an event is answered
pub data Answer : Type 0 where
  -- with these octets
  replied : List ℕ → Answer
  -- with nothing, for this reason
  dropped : Reason → Answer
  -- with nothing, because there was no memory for a response of the desk
  mute : Answer

-- the answer of a turn, whose reply has these octets
abbrev pub answer_of : Turn → List ℕ → Answer
answer_of turn.Reply octets = replied octets
answer_of (turn.Dropped reason) octets = dropped reason
answer_of turn.Mute octets = mute

-- it is a reply or a response
abbrev pub is_reply : Answer → Bool
is_reply (replied octets) = true
is_reply (dropped reason) = false
is_reply mute = false

-- a datagram is answered with a reply
abbrev pub answers_datagram : What → Answer → Bool
answers_datagram (Datagram source port bytes) answer = is_reply answer
answers_datagram (Desk bytes) answer = false

-- A datagram is answered as acct_wire specifies, and is never mute. A report may be at most so many
-- seconds old when it is received, if that is limited.
abbrev pub AnswersDatagram : Option ℕ → Config → List ℕ → List ℕ → ℕ → Answer → Effect → Type 0
AnswersDatagram oldest config source bytes moment (replied octets) effect =
    RepliesWithin oldest config.clients source bytes moment octets effect
AnswersDatagram oldest config source bytes moment (dropped reason) effect =
    DropsWithin oldest config.clients source bytes moment reason effect
AnswersDatagram oldest config source bytes moment mute effect = ⊥

-- A request at the desk is answered according to what it asks, and is never dropped.
abbrev pub AnswersRequest : Config → List ℕ → ℕ → Answer → Effect → Type 0
AnswersRequest config bytes moment (replied octets) effect =
    (ask : Ask) × Asks config.keys config.plans bytes moment ask × AnswersAsk ask octets effect
AnswersRequest config bytes moment (dropped reason) effect = ⊥
AnswersRequest config bytes moment mute effect =
    (ask : Ask) × Asks config.keys config.plans bytes moment ask × Mutes ask effect

-- what is received at a moment may be answered this way, with this effect
abbrev pub AnswersEvent : Option ℕ → Config → ℕ → What → Answer → Effect → Type 0
AnswersEvent oldest config moment (Datagram source port bytes) answer effect =
    AnswersDatagram oldest config source bytes moment answer effect
AnswersEvent oldest config moment (Desk bytes) answer effect =
    AnswersRequest config bytes moment answer effect

-- a request at the desk for the balance of the account whose key it has
abbrev pub AsksBalance : Config → ℕ → What → Type 0
AsksBalance config moment (Datagram source port bytes) = ⊥
AsksBalance config moment (Desk bytes) =
    (ask : Ask) × Asks config.keys config.plans bytes moment ask × IsOfBalance ask

-- the response with what the request asks for, over this history
abbrev pub IsPage : Config → History → ℕ → What → Answer → Type 0
IsPage config history moment (Desk bytes) (replied octets) =
    (ask : Ask) × Asks config.keys config.plans bytes moment ask
    × IsResponseOf config.plans history ask octets
IsPage config history moment what answer = ⊥

-- ---- steps

-- An event, and the configuration under which it was answered. How many seconds old a report could
-- be, if that was limited. The answer, its effect, and whether the reply was taken, if it has one.
pub record Visit : Type 0 where
  pub site : Config
  pub oldest : Option ℕ
  pub event : Event
  pub answer : Answer
  pub effect : Effect
  pub is_taken : Bool

-- the event is answered this way under its configuration
abbrev pub IsAnswered : Visit → Type 0
IsAnswered visit =
    AnswersEvent visit.oldest visit.site visit.event.moment visit.event.what visit.answer
    visit.effect

-- One step, from a history to the next, under a configuration with these plans. The event is
-- answered this way. Its effect is true of the history, and determines the history after. If the
-- effect is a lookup, the answer has what the history has.
pub record Step (plans : List Plan) (history : History) (visit : Visit) (after : History)
    : Type 0 where
  pub under : visit.site.plans ≡ plans
  pub answers : IsAnswered visit
  pub holds : Holds plans history visit.effect
  pub tells : visit.effect ≡ looked
      → IsPage visit.site history visit.event.moment visit.event.what visit.answer
  pub leads : after ≡ after_effect history visit.effect

-- step after step, each from the history that the one before it left
abbrev pub Run : List Plan → History → List Visit → History → Type 0
Run plans history [] after = after ≡ history
Run plans history (visit ∷ visits) after =
    (next : History) × Step plans history visit next × Run plans next visits after

-- ---- a step over a book

-- What is received at a moment is answered this way over a book: a step of the machine from each
-- history for which its content stood.
pub record TakesStep {B : Type 0} (b : Ghosts B) (oldest : Option ℕ) (config : Config) (moment : ℕ)
    (what : What) (old new : B) (answer : Answer) : Type 0 where
  pub effect : Effect
  pub answers : AnswersEvent oldest config moment what answer effect
  pub does : Does b config.plans old new effect
  pub tells : b.is_sound new → (history : History) → StoodFor b config.plans old history
      → effect ≡ looked → IsPage config history moment what answer
  -- over a steady book no response says that a balance is unavailable
  pub steady : b.is_steady old → AsksBalance config moment what
      → answer ≢ replied unavailable_response
