-- What `answer` and `handle` ensure is a step of the machine.
use Rattle.std.proofs.Common.{◌≡◌, ℕ, List, take, subst, inl, inr}
use Rattle.std.specs.Prelude.{Option, Result, Ok, Err, Vec}
use Rattle.std.specs.Global.{Global}
use Rattle.acct_book.specs.declared.book.Book.{Ghosts}
use Rattle.acct_book.specs.Effect.{Effect, limited, failed, looked, passed, unasked}
use Rattle.acct_book.specs.Step.{Does}
use Rattle.acct_wire.specs.declared.answering.Outcome.{Outcome}
use Rattle.acct_wire.specs.declared.answering.Outcome.TheVariants.{Reply, Drop}
use Rattle.acct_wire.specs.declared.reason.Reason.{Reason}
use Rattle.acct_wire.specs.declared.reason.Reason.TheVariants as why
use Rattle.acct_wire.specs.Clients.{ClientsFacts}
use Rattle.acct_wire.specs.Outcomes as wire
use Rattle.acct_desk.specs.Asks.{Ask, Asks, refused, me, overruns, look, credit}
use Rattle.acct_desk.specs.Handling.{Handles, Mutes, IsOfBalance}
use Rattle.acct_desk.proofs.AskLemmas.{one_ask}
use Rattle.acct_desk_pages.specs.Responses.{unavailable_response}
use Rattle.acct_site.specs.declared.config.Config.{Config}
use Rattle.acct_service.specs.declared.event.What.TheVariants.{Datagram, Desk}
use Rattle.acct_service.specs.Machine.{Answer, replied, dropped, mute, TakesStep}

-- the answer that an outcome results in, and a response
abbrev pub answer_by : Outcome → List ℕ → Answer
answer_by (Reply size) array = replied (take size array)
answer_by (Drop reason) array = dropped reason

abbrev pub response_by : {E : Type 0} → Result (Vec ℕ Global) E → Answer
response_by (Ok octets) = replied octets.items
response_by (Err error) = mute

-- a datagram that is dropped never has the effect `looked`
dropped_looks : (oldest : Option ℕ) (clients : ClientsFacts) (source bytes : List ℕ) (moment : ℕ) (reason : Reason)
    → wire.DropsWithin oldest clients source bytes moment reason looked → ⊥
dropped_looks oldest clients source bytes moment why.BalanceLimit says =
    let clash : looked ≡ limited says.0 says.3.0 = says.3.1 in cc
dropped_looks oldest clients source bytes moment why.Unavailable says =
    elim says.2 [
      | inl old ↦ let clash : looked ≡ unasked = old.1 in cc
      | inr recent ↦ let clash : looked ≡ failed says.0 = recent.1 in cc
    ]
dropped_looks oldest clients source bytes moment reason says =
    let clash : looked ≡ unasked = says.1 in cc

mute_looks : (ask : Ask) → Mutes ask looked → ⊥
mute_looks (refused refusal) is = let clash : looked ≡ unasked = is in cc
mute_looks (me page account) (inl is) = let clash : looked ≡ unasked = is in cc
mute_looks (me page account) (inr is) = let clash : looked ≡ passed = is in cc
mute_looks overruns (inl is) = let clash : looked ≡ unasked = is in cc
mute_looks overruns (inr is) = let clash : looked ≡ passed = is in cc
mute_looks (look query) (inl is) = let clash : looked ≡ unasked = is in cc
mute_looks (look query) (inr is) = let clash : looked ≡ passed = is in cc
mute_looks (credit topup) is = let clash : looked ≡ unasked = is in cc

module _ {B : Type 0} (b : Ghosts B) (oldest : Option ℕ) (config : Config) (old new : B) where
  pub datagram_step : (source bytes array : List ℕ) (moment port : ℕ) (outcome : Outcome)
      → (effect : Effect) × wire.AnswersWithin oldest config.clients source bytes moment array outcome effect
      × Does b config.plans old new effect
      → TakesStep b oldest config moment (Datagram source port bytes) old new (answer_by outcome array)
  datagram_step source bytes array moment port (Reply size) (effect, says, does) = record {
    effect = effect;
    answers = says;
    does = does;
    tells = λ sound history stood is. let (asked, reply, recent, was) = says in absurd (cc (is, was));
    steady = λ steady none. absurd none;
  }
  datagram_step source bytes array moment port (Drop reason) (effect, says, does) = record {
    effect = effect;
    answers = says;
    does = does;
    tells = λ sound history stood is. absurd (dropped_looks oldest config.clients source bytes moment
        reason (subst (wire.DropsWithin oldest config.clients source bytes moment reason) is says));
    steady = λ steady none. absurd none;
  }

  pub request_step : {E : Type 0} (bytes : List ℕ) (moment : ℕ) (ask : Ask)
      (result : Result (Vec ℕ Global) E)
      → Asks config.keys config.plans bytes moment ask → Handles b config.plans ask old new result
      → TakesStep b oldest config moment (Desk bytes) old new (response_by result)
  request_step bytes moment ask (Ok octets) asks h = record {
    effect = h.effect;
    answers = (ask, asks, h.answers);
    does = h.does;
    tells = λ sound history stood is. (ask, asks, h.tells sound history stood is);
    steady = λ steady (other, wants, balance) is. h.steady steady
        (subst IsOfBalance (one_ask config.keys config.plans bytes moment other ask wants asks) balance)
        (let same : octets.items ≡ unavailable_response = cc (is) in same);
  }
  request_step bytes moment ask (Err error) asks h = record {
    effect = h.effect;
    answers = (ask, asks, h.answers);
    does = h.does;
    tells = λ sound history stood is. absurd (mute_looks ask (subst (Mutes ask) is h.answers));
    steady = λ steady wants is. let clash : mute ≡ replied unavailable_response = is in cc;
  }
