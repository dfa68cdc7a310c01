-- The answer to a line over a book, and what a run over lines prints.
use Rattle.std.specs.Str.{IsUtf8}
use Rattle.std.specs.Io.KnownBytes.{Appends}
use Rattle.std.specs.List.{list_all}
use Rattle.std.specs.Prelude.{◌≡◌, ◌<◌, ◌≤◌, ℕ, ℤ, ◌⊎◌, List, Option, None, Some, Result, IfOk}
use Rattle.std.specs.Prelude.{MatchOption, length, [], ◌∷◌, ◌++◌, Bool, true, false, flat_map}
use Rattle.radius_codec.specs.Packet.{request_octets}
use Rattle.acct_model.specs.declared.plan.Plan.{Plan}
use Rattle.acct_model.specs.declared.entry.Entry.TheVariants as entry
use Rattle.acct_model.specs.Vouchers.{TopUpFacts}
use Rattle.acct_book.specs.declared.book.Book.{Ghosts}
use Rattle.acct_book.specs.declared.key.Key.{Key}
use Rattle.acct_book.specs.declared.book.Unavailable.{Unavailable as Refusal}
use Rattle.acct_book.specs.declared.recording.Recorded.{Recorded}
use Rattle.acct_book.specs.declared.recording.RecordError.{RecordError}
use Rattle.acct_book.specs.Content.{kept_balance}
use Rattle.acct_book.specs.Effect.{Effect, effect_of}
use Rattle.acct_book.specs.Row.{RowFacts}
use Rattle.acct_book.specs.Stands.{Stands}
use Rattle.acct_book.specs.Step.{Looks, Does}
use Rattle.acct_wire.specs.declared.answering.Outcome.{Outcome}
use Rattle.acct_wire.specs.declared.client.Client.{Client}
use Rattle.acct_wire.specs.Clients.{ClientsFacts, client_named}
use Rattle.acct_wire.specs.Outcomes as wire
use Rattle.acct_wire.specs.Outcomes.{Written}
use Rattle.acct_program_feed.specs.Answers.{answer_text, packet_answer, signed_answer}
use Rattle.acct_program_feed.specs.Answers.{balance_answer}
use Rattle.acct_program_feed.specs.Answers.{credit_of}
use Rattle.acct_program_feed.specs.Answers.{session_answer}
use Rattle.acct_program_feed.specs.Line.{IsBad, SpellsLine}
use Rattle.acct_program_feed.specs.Lines.{AreCut}
use Rattle.acct_program_feed.specs.declared.answer.Answer.{Answer}
use Rattle.acct_program_feed.specs.declared.answer.Answer.TheVariants as form
use Rattle.acct_program_feed.specs.declared.line.Line.{Line}
use Rattle.acct_program_feed.specs.declared.line.Line.TheVariants as line

module _ {B : Type 0} (b : Ghosts B) (clients : ClientsFacts) (plans : List Plan) (old new : B) where
  -- A datagram was checked against the clients, and its effect applied to the book once. `show`
  -- makes the answer of its outcome.
  pub record FeedsDatagram (source bytes : List ℕ) (moment : ℕ) (show : List ℕ → Outcome → Answer)
      (answer : Answer) : Type 0 where
    pub outcome : Outcome
    pub before : List ℕ
    pub after : List ℕ
    pub effect : Effect
    pub answers : wire.Answers clients source bytes moment after outcome effect
    pub written : Written before after outcome
    pub does : Does b plans old new effect
    pub shown : answer ≡ show after outcome

  -- The line asked for the balance of an account.
  pub record AnswersBalance (account : List ℕ) (answer : Answer) : Type 0 where
    pub told : Result ℤ Refusal
    pub found : b.is_open new → IfOk told (λ balance.
        balance ≡ kept_balance (b.content old) account)
    pub reads : Looks b old new told
    pub shown : answer ≡ balance_answer account told

  -- A voucher was recorded once.
  pub record AnswersTopUp (topup : TopUpFacts) (answer : Answer) : Type 0 where
    pub told : Result Recorded RecordError
    pub does : Does b plans old new (effect_of (entry.TopUp topup) told)
    pub shown : answer ≡ form.Voucher (credit_of told)

  -- The line asked for the row of a configured client's session.
  pub record AnswersKnown (key : Key) (answer : Answer) : Type 0 where
    pub told : Result (Option RowFacts) Refusal
    pub found : b.is_open new → IfOk told (λ row. row ≡ (b.content old).rows key)
    pub reads : Looks b old new told
    pub shown : answer ≡ session_answer plans told

  -- the answer is a bad line, and the book is unchanged
  abbrev pub IsBadLine : Answer → Type 0
  IsBadLine answer = (answer ≡ form.BadLine) × (new ≡ old)

  -- The line asked for the row of a session. It is a bad line if no client has the name.
  abbrev pub AnswersSession : Key → Answer → Type 0
  AnswersSession key answer =
      MatchOption (client_named key.client clients.list) (IsBadLine answer)
      (λ client. AnswersKnown key answer)

  -- Attributes are sent from a client's address, signed with its secret. It is a bad line if they
  -- do not fit into a request.
  abbrev pub FeedsRequest : ℕ → Client → ℕ → List ℕ → Answer → Type 0
  FeedsRequest moment client identifier octets answer =
      ((4076 < length octets) × IsBadLine answer)
      ⊎ ((length octets ≤ 4076) × FeedsDatagram client.address
      (request_octets identifier octets client.secret) moment signed_answer answer)

  -- The client of a name sends attributes. It is a bad line if no client has the name.
  abbrev pub AnswersSigned : ℕ → List ℕ → ℕ → List ℕ → Answer → Type 0
  AnswersSigned moment name identifier octets answer =
      MatchOption (client_named name clients.list) (IsBadLine answer)
      (λ client. FeedsRequest moment client identifier octets answer)

  -- the answer to a line
  abbrev pub AnswersParsed : Line → Answer → Type 0
  AnswersParsed (line.Signed moment client identifier octets) answer =
      AnswersSigned moment client identifier octets answer
  AnswersParsed (line.Packet moment source octets) answer =
      FeedsDatagram source octets moment packet_answer answer
  AnswersParsed (line.Balance account) answer = AnswersBalance account answer
  AnswersParsed (line.TopUp topup) answer = AnswersTopUp topup answer
  AnswersParsed (line.Session key) answer = AnswersSession key answer

  -- The answer to the octets of a line. It is a bad line if they are no text that a line has, else
  -- the answer to their line.
  abbrev pub AnswersOctets : List ℕ → Answer → Type 0
  AnswersOctets octets answer =
      (IsBadLine answer × (IsUtf8 octets → IsBad octets))
      ⊎ (IsUtf8 octets × (line : Line) × SpellsLine octets line × AnswersParsed line answer)

  -- The answer to a line: none if it is empty.
  abbrev pub AnswersLine : List ℕ → Option Answer → Type 0
  AnswersLine octets None = (octets ≡ []) × (new ≡ old)
  AnswersLine octets (Some answer) = AnswersOctets octets answer

-- what is printed for a line's answer: its text and a line end
abbrev pub printed_text : Option Answer → List ℕ
printed_text None = []
printed_text (Some answer) = answer_text answer ++ 10 ∷ []

-- the line was not bad
abbrev pub is_good : Option Answer → Bool
is_good (Some form.BadLine) = false
is_good _ = true

module _ {B : Type 0} (b : Ghosts B) (clients : ClientsFacts) (plans : List Plan) where
  -- Each line was answered over the book as the line before it left it.
  abbrev pub AnswersAll : List (List ℕ) → List (Option Answer) → B → B → Type 0
  AnswersAll [] [] old new = new ≡ old
  AnswersAll [] (answer ∷ answers) old new = ⊥
  AnswersAll (line ∷ lines) [] old new = ⊥
  AnswersAll (line ∷ lines) (answer ∷ answers) old new = (next : B)
      × AnswersLine b clients plans old next line answer
      × AnswersAll lines answers next new

  -- The first lines of an input, up to the rest, were answered in their order. Their answers were
  -- printed. `good` says whether all were good.
  pub record Ran (old new : B) (input rest : List ℕ) (good : Bool)
      (before after : Option (List ℕ)) : Type 0 where
    pub lines : List (List ℕ)
    pub answers : List (Option Answer)
    pub cut : AreCut input lines rest
    pub answered : AnswersAll lines answers old new
    pub printed : Appends before after (flat_map printed_text answers)
    pub good_is : good ≡ list_all is_good answers

  -- All lines of an input were good and were answered over a book of these plans that was empty
  -- before. Their answers were printed.
  pub record RanAfresh (input : List ℕ) (before after : Option (List ℕ)) : Type 0 where
    pub first : B
    pub is_new : b.is_open first × Stands plans (b.content first) []
    pub last : B
    pub ran : Ran first last input [] true before after
