-- What the desk answers, and what that does.
use Rattle.std.specs.Prelude.{◌≡◌, ◌≢◌, ◌⊎◌, ℕ, ℤ, List, [], Option, None, Some, Vec, Result}
use Rattle.std.specs.Prelude.{Ok, Err, IfOk, MatchBool, codes, if◌then◌else◌}
use Rattle.std.specs.Global.{Global}
use Rattle.serde_json.specs.Data.{Data}
use Rattle.acct_model.specs.declared.plan.Plan.{Plan}
use Rattle.acct_model.specs.declared.entry.Entry.TheVariants as entry
use Rattle.acct_model.specs.Vouchers.{TopUpFacts}
use Rattle.acct_model.specs.History.{History, balance_of, is_known}
use Rattle.acct_book.specs.declared.book.Book.{Ghosts}
use Rattle.acct_book.specs.declared.recording.Recorded.{Recorded}
use Rattle.acct_book.specs.declared.recording.RecordError.{RecordError}
use Rattle.acct_book.specs.Maps.{octets_cmp}
use Rattle.acct_book.specs.Effect.{Effect, looked, passed, unasked, effect_of}
use Rattle.acct_book.specs.Step.{StoodFor, Does}
use Rattle.acct_book.specs.Part.{Part, part_of, AreRowsIn, AreTopUpsIn}
use Rattle.acct_book.specs.Row.{RowFacts}
use Rattle.acct_book.specs.Walk.{AreAllPast}
use Rattle.acct_desk.specs.declared.asking.Page.{Page}
use Rattle.acct_desk.specs.declared.asking.Page.TheVariants.{Balance, Sessions, TopUps}
use Rattle.acct_desk.specs.Logins.{Login}
use Rattle.acct_desk.specs.Asks.{Ask, refused, me, overruns, look, credit, Query, login, overdrawn}
use Rattle.acct_desk.specs.Overdrawn.{IsOverdrawnTold}
use Rattle.acct_desk_pages.specs.Bodies.{balance_body, sessions_body, topups_body, overruns_body}
use Rattle.acct_desk_pages.specs.Logins.{is_short, login_body}
use Rattle.acct_desk.specs.Responses.{refusal_response}
use Rattle.acct_desk_pages.specs.Responses.{response_of, error_body, unavailable_response}
use Rattle.acct_desk.specs.Responses.{recorded_response}

-- ---- what the desk returns

-- the body of an account's page, written only from its part of the history
abbrev pub IsPageBody : List Plan → Part → List ℕ → Page → Data → Type 0
IsPageBody plans part account Balance body = body ≡ balance_body account part.balance
IsPageBody plans part account Sessions body = (rows : List RowFacts) × AreRowsIn part rows
    × (body ≡ sessions_body plans account rows)
IsPageBody plans part account TopUps body = (topups : List TopUpFacts) × AreTopUpsIn part topups
    × (body ≡ topups_body account topups)

-- the balance of an account that owns a session or a voucher
abbrev pub known_balance : List Plan → History → List ℕ → Option ℤ
known_balance plans history account =
    if is_known history account then Some (balance_of plans history account) else None

-- each known account with its balance, once, in the order of accounts
abbrev pub AreBalances : List Plan → History → List (List ℕ × ℤ) → Type 0
AreBalances plans history accounts =
    AreAllPast octets_cmp (known_balance plans history) None accounts

-- What is said at a login: that the balance is too low for a block, else how much may be used.
abbrev pub IsLoginTold : Part → Login → ℕ × Data → Type 0
IsLoginTold part asked told = MatchBool (is_short asked.plan part.balance)
    (told ≡ (402, error_body (codes "no balance")))
    ((rows : List RowFacts) × AreRowsIn part rows
    × (told ≡ (200, login_body asked.plan asked.stamp asked.heard part.balance rows)))

-- what a question of the site's front is told
abbrev pub IsQueryTold : List Plan → History → Query → ℕ × Data → Type 0
IsQueryTold plans history (login asked) told =
    IsLoginTold (part_of plans history asked.account) asked told
IsQueryTold plans history (overdrawn after) told = IsOverdrawnTold (known_balance plans history)
    (λ account rows. AreRowsIn (part_of plans history account) rows) after told

-- the status and the body of the response over a history, by what the request asks for
abbrev pub IsTold : List Plan → History → Ask → ℕ × Data → Type 0
IsTold plans history (refused refusal) told = ⊥
IsTold plans history (me page account) told = (told.0 ≡ 200)
    × IsPageBody plans (part_of plans history account) account page told.1
IsTold plans history overruns told = (told.0 ≡ 200) × ((accounts : List (List ℕ × ℤ))
    × AreBalances plans history accounts × (told.1 ≡ overruns_body accounts))
IsTold plans history (look query) told = IsQueryTold plans history query told
IsTold plans history (credit topup) told = ⊥

-- the response with that status and that body
abbrev pub IsResponseOf : List Plan → History → Ask → List ℕ → Type 0
IsResponseOf plans history ask octets = (told : ℕ × Data) × IsTold plans history ask told
    × (octets ≡ response_of told.0 [] told.1)

-- ---- what is answered, and what that does

-- A request that is settled without the book has its own response. A page was returned, or the book
-- was unavailable. A top-up is answered by the result of recording it.
abbrev pub AnswersAsk : Ask → List ℕ → Effect → Type 0
AnswersAsk (refused refusal) octets effect =
    (octets ≡ refusal_response refusal) × (effect ≡ unasked)
AnswersAsk (me page account) octets effect =
    (effect ≡ looked) ⊎ ((octets ≡ unavailable_response) × (effect ≡ passed))
AnswersAsk overruns octets effect =
    (effect ≡ looked) ⊎ ((octets ≡ unavailable_response) × (effect ≡ passed))
AnswersAsk (look query) octets effect =
    (effect ≡ looked) ⊎ ((octets ≡ unavailable_response) × (effect ≡ passed))
AnswersAsk (credit topup) octets effect =
    (recorded : Result Recorded RecordError)
    × (octets ≡ recorded_response recorded)
    × (effect ≡ effect_of (entry.TopUp topup) recorded)

-- There was no memory for a response. Then the book wasn't used, or only for a page.
abbrev pub Mutes : Ask → Effect → Type 0
Mutes (me page account) effect = (effect ≡ unasked) ⊎ (effect ≡ passed)
Mutes overruns effect = (effect ≡ unasked) ⊎ (effect ≡ passed)
Mutes (look query) effect = (effect ≡ unasked) ⊎ (effect ≡ passed)
Mutes ask effect = effect ≡ unasked

-- what is answered: a response, or that there was no memory for one
abbrev pub AnswersOrMutes : {E : Type 0} → Ask → Result (Vec ℕ Global) E → Effect → Type 0
AnswersOrMutes ask (Ok octets) effect = AnswersAsk ask octets.items effect
AnswersOrMutes ask (Err error) effect = Mutes ask effect

-- if the book answered, the response has the definition's octets, over the history
abbrev pub TellsAsk : List Plan → History → Ask → List ℕ → Effect → Type 0
TellsAsk plans history ask octets effect = effect ≡ looked → IsResponseOf plans history ask octets

-- it asks for a balance
abbrev pub IsOfBalance : Ask → Type 0
IsOfBalance (refused refusal) = ⊥
IsOfBalance (me Balance account) = Unit {0}
IsOfBalance (me Sessions account) = ⊥
IsOfBalance (me TopUps account) = ⊥
IsOfBalance overruns = ⊥
IsOfBalance (look query) = ⊥
IsOfBalance (credit topup) = ⊥

-- What becomes of a request that asks this, over any book.
pub record Handles {B E : Type 0} (b : Ghosts B) (plans : List Plan) (ask : Ask) (old new : B)
    (result : Result (Vec ℕ Global) E) : Type 0 where
  pub effect : Effect
  pub answers : AnswersOrMutes ask result effect
  pub does : Does b plans old new effect
  pub tells : b.is_sound new → (history : History) → StoodFor b plans old history
      → IfOk result (λ octets. TellsAsk plans history ask octets.items effect)
  -- over a steady book a balance is returned
  pub steady : b.is_steady old → IsOfBalance ask
      → IfOk result (λ octets. octets.items ≢ unavailable_response)
