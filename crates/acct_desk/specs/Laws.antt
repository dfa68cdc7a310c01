-- Laws of the desk.
use Rattle.std.specs.Prelude.{◌≡◌, ◌≢◌, ℕ, List}
use Rattle.acct_model.specs.declared.plan.Plan.{Plan}
use Rattle.acct_model.specs.History.{History}
use Rattle.acct_book.specs.Effect.{Effect}
use Rattle.acct_book.specs.Part.{part_of}
use Rattle.acct_desk.specs.declared.asking.Page.{Page}
use Rattle.acct_desk.specs.Keys.{KeysFacts}
use Rattle.acct_desk.specs.Asks.{Ask, Asks, me}
use Rattle.acct_desk.specs.Handling.{AnswersAsk, TellsAsk}
use Rattle.acct_desk_pages.specs.Responses.{unavailable_response}

-- the octets answer the request after this history, with this effect
abbrev pub MayAnswer : KeysFacts → List Plan → List ℕ → ℕ → History → List ℕ → Effect → Type 0
MayAnswer keys plans request moment history octets effect = (ask : Ask)
    × Asks keys plans request moment ask × AnswersAsk ask octets effect
    × TellsAsk plans history ask octets effect

-- no request asks for two things
abbrev pub OneThingIsAsked : Type 0
OneThingIsAsked = (keys : KeysFacts) (plans : List Plan) (request : List ℕ) (moment : ℕ)
    (one other : Ask)
    → Asks keys plans request moment one → Asks keys plans request moment other → one ≡ other

-- Take two histories at whose ends the same plans are in force, and in which an account has the
-- same part. A request by its own key for one of its pages gets the same octets over both, if the
-- book answers at all.
abbrev pub MeFromPart : Type 0
MeFromPart = (keys : KeysFacts) (plans : List Plan) (request : List ℕ) (moment : ℕ) (page : Page)
    (account : List ℕ) (one other : History) (first second : Effect) (octets others : List ℕ)
    → Asks keys plans request moment (me page account)
    → part_of plans one account ≡ part_of plans other account
    → MayAnswer keys plans request moment one octets first
    → MayAnswer keys plans request moment other others second
    → octets ≢ unavailable_response → others ≢ unavailable_response → octets ≡ others
