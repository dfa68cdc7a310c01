-- How a datagram is answered, what that does, and what the array then holds.
use Rattle.std.specs.Prelude.{◌≡◌, ◌⊎◌, ℕ, ℤ, ◌≤◌, List, take, drop, Option, None}
use Rattle.radius_codec.specs.Packet.{reply_octets}
use Rattle.acct_model.specs.declared.entry.Entry.{Entry}
use Rattle.acct_model.specs.Entries.{Attributes}
use Rattle.acct_book.specs.Effect.{Effect, added, limited, failed, unasked}
use Rattle.acct_wire.specs.declared.client.Client.{Client}
use Rattle.acct_wire.specs.Clients.{ClientsFacts}
use Rattle.acct_wire.specs.declared.reason.Reason.{Reason}
use Rattle.acct_wire.specs.declared.reason.Reason.TheVariants.{BalanceLimit, Unavailable}
use Rattle.acct_wire.specs.declared.reason.Reason.TheVariants.{TooOld}
use Rattle.acct_wire.specs.declared.answering.Outcome.{Outcome}
use Rattle.acct_wire.specs.declared.answering.Outcome.TheVariants.{Reply, Drop}
use Rattle.acct_wire.specs.Datagrams.{Breaks, RequestAsks, RequestAsksFor, IsTooOld}
use Rattle.acct_wire.specs.Datagrams.{AsksTooOld}

-- The datagram is a client's signed request that spells this entry, and these octets are the reply
-- to that request (RFC 2866, section 3).
pub record IsReplyFor (clients : ClientsFacts) (source bytes : List ℕ) (moment : ℕ) (asked : Entry)
    (octets : List ℕ) : Type 0 where
  pub client : Client
  pub identifier : ℕ
  pub authenticator : List ℕ
  pub attributes : Attributes
  pub asks : RequestAsks clients source bytes moment client identifier authenticator attributes
      asked
  pub reply : octets ≡ reply_octets identifier authenticator attributes client.secret

-- A reply says that the entry that the datagram requests was added. It is not too old.
abbrev pub RepliesWithin : Option ℕ → ClientsFacts → List ℕ → List ℕ → ℕ → List ℕ → Effect
    → Type 0
RepliesWithin oldest clients source bytes moment octets effect =
    (asked : Entry) × (reply : IsReplyFor clients source bytes moment asked octets)
    × (¬ IsTooOld oldest reply.attributes asked) × (effect ≡ added asked)

-- The store or an allocation failed for an entry. If it is too old, the book was not called.
abbrev pub Fails : Option ℕ → Attributes → Entry → Effect → Type 0
Fails oldest attributes asked effect =
    (IsTooOld oldest attributes asked × (effect ≡ unasked))
    ⊎ ((¬ IsTooOld oldest attributes asked) × (effect ≡ failed asked))

-- A drop for the balance says that the entry was refused. One for the book says that the store or
-- an allocation failed, one for its age that it is too old. Any other names the first rule that is
-- broken. For the age or a rule the book was not called.
abbrev pub DropsWithin : Option ℕ → ClientsFacts → List ℕ → List ℕ → ℕ → Reason → Effect → Type 0
DropsWithin oldest clients source bytes moment BalanceLimit effect =
    (asked : Entry) × (asks : RequestAsksFor clients source bytes moment asked)
    × (¬ IsTooOld oldest asks.attributes asked) × ((balance : ℤ) × (effect ≡ limited asked balance))
DropsWithin oldest clients source bytes moment Unavailable effect =
    (asked : Entry) × (asks : RequestAsksFor clients source bytes moment asked)
    × Fails oldest asks.attributes asked effect
DropsWithin oldest clients source bytes moment TooOld effect =
    AsksTooOld oldest clients source bytes moment × (effect ≡ unasked)
DropsWithin oldest clients source bytes moment reason effect =
    Breaks clients source bytes reason × (effect ≡ unasked)

-- A datagram may be answered so, and has this effect. The array then holds these octets. A report
-- may have waited for at most so many seconds, if that is limited.
abbrev pub AnswersWithin : Option ℕ → ClientsFacts → List ℕ → List ℕ → ℕ → List ℕ → Outcome → Effect
    → Type 0
AnswersWithin oldest clients source bytes moment array (Reply size) effect =
    RepliesWithin oldest clients source bytes moment (take size array) effect
AnswersWithin oldest clients source bytes moment array (Drop reason) effect =
    DropsWithin oldest clients source bytes moment reason effect

-- a datagram may be answered so, with a report of any age
abbrev pub Answers : ClientsFacts → List ℕ → List ℕ → ℕ → List ℕ → Outcome → Effect → Type 0
Answers = AnswersWithin None

-- past the reply the array is as it was
pub record WritesReply (before after : List ℕ) (size : ℕ) : Type 0 where
  pub rest : drop size after ≡ drop size before
  pub least : 20 ≤ size
  pub most : size ≤ 4096

-- a drop leaves the array as it was
abbrev pub Written : List ℕ → List ℕ → Outcome → Type 0
Written before after (Reply size) = WritesReply before after size
Written before after (Drop reason) = after ≡ before
