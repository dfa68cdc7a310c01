-- What becomes of a request, by what its parts returned.
use Rattle.std.proofs.Common.{◌≡◌, ◌≢◌, ◌⊎◌, ℕ, List, [], get_or, inl, inr, arith, refl}
use Rattle.std.proofs.Common.{ap, sym, ◌∙◌, subst}
use Rattle.std.specs.Prelude.{Result, Ok, Err, IfOk, Vec}
use Rattle.std.specs.Fmt.{digits}
use Rattle.std.specs.Result.{ForOk}
use Rattle.std.specs.Global.{Global}
use Rattle.serde_json.specs.Data.{Data}
use Rattle.serde_json.specs.View.{view}
use Rattle.serde_json.specs.declared.value.Value.{Value}
use Rattle.acct_model.specs.declared.plan.Plan.{Plan}
use Rattle.acct_model.specs.declared.entry.Entry.TheVariants as entry
use Rattle.acct_model.specs.Vouchers.{TopUpFacts}
use Rattle.acct_model.specs.History.{History}
use Rattle.acct_book.specs.declared.book.Book.{Ghosts}
use Rattle.acct_book.specs.declared.recording.Recorded.{Recorded}
use Rattle.acct_book.specs.declared.recording.Recorded.TheVariants.{New, Repeat}
use Rattle.acct_book.specs.declared.recording.RecordError.{RecordError}
use Rattle.acct_book.specs.declared.recording.RecordError.TheVariants as record_error
use Rattle.acct_book.specs.Effect.{Effect, after_effect, Holds, IsTold, IsOwn, effect_of, looked}
use Rattle.acct_book.specs.Effect.{IsUnasked, passed, unasked}
use Rattle.acct_book.specs.Step.{StoodFor, Does}
use Rattle.acct_book.proofs.StepLemmas.{Settles, unasked_by, only_looked_by}
use Rattle.acct_desk.specs.declared.asking.Refusal.{Refusal}
use Rattle.acct_desk_pages.specs.declared.bodies.PageError.{PageError}
use Rattle.acct_desk_pages.specs.declared.bodies.PageError.TheVariants.{Unavailable, Memory}
use Rattle.acct_desk.specs.Asks.{Ask, refused, me, overruns, look, credit}
use Rattle.acct_desk.specs.Handling.{AnswersAsk, AnswersOrMutes, TellsAsk, Mutes, IsOfBalance}
use Rattle.acct_desk.specs.Handling.{Handles}
use Rattle.acct_desk.specs.inner.Pages.{Shows, ShowsBy, IsPageResponse, IsResponseBy}
use Rattle.acct_desk.specs.inner.Pages.{page_of}
use Rattle.acct_desk.specs.Responses.{refusal_response}
use Rattle.acct_desk_pages.specs.Responses.{response_of, unavailable_response}
use Rattle.acct_desk.specs.Responses.{recorded_response}

apart : ◌≡◌ {A = ℕ} 50 53 → ⊥
apart e = omega arith

-- a page is not the response of an unavailable book: their statuses differ in the tenth octet
pub told-unavailable : (body : Data) → response_of 200 [] body ≢ unavailable_response
unfolding unavailable_response digits
told-unavailable body e = apart (ap (λ xs. get_or xs 9 0) e)

pub for_ok : {T E : Type 0} (P : T → Type 0) (r : Result T E) → IfOk r P → ForOk r P
for_ok P (Ok x) h = λ y is. subst P (let same : x ≡ y = cc in same) h
for_ok P (Err e) h = λ y is. absurd (cc)

-- ---- the book was not called

mute_mutes : (ask : Ask) → Mutes ask unasked
mute_mutes (refused refusal) = refl
mute_mutes (me page account) = inl refl
mute_mutes overruns = inl refl
mute_mutes (look query) = inl refl
mute_mutes (credit topup) = refl

refused_alone : {E : Type 0} (refusal : Refusal) (result : Result (Vec ℕ Global) E)
    → IfOk result (λ octets. octets.items ≡ refusal_response refusal)
    → AnswersOrMutes (refused refusal) result unasked
refused_alone refusal (Ok octets) is = (is, refl)
refused_alone refusal (Err e) is = refl

-- if the effect is not `looked`, the response claims nothing about the history
not_told : {E : Type 0} (plans : List Plan) (history : History) (ask : Ask) (effect : Effect)
    (result : Result (Vec ℕ Global) E) → (effect ≡ looked → ⊥)
    → IfOk result (λ octets. TellsAsk plans history ask octets.items effect)
not_told plans history ask effect (Ok octets) none = λ is. absurd (none is)
not_told plans history ask effect (Err e) none = tt

module _ {B E : Type 0} (b : Ghosts B) (plans : List Plan) where
  -- there was no memory to begin with
  pub mute_handles : (ask : Ask) (book : B) (e : E) → Handles b plans ask book book (Err e)
  mute_handles ask book e = record {
    effect = unasked;
    answers = mute_mutes ask;
    does = unasked_by b plans book;
    tells = λ _ history _. tt;
    steady = λ _ _. tt;
  }

  -- a request that is refused without the book
  pub refused_handles : (refusal : Refusal) (book : B) (result : Result (Vec ℕ Global) E)
      → IfOk result (λ octets. octets.items ≡ refusal_response refusal)
      → Handles b plans (refused refusal) book book result
  refused_handles refusal book result is = record {
    effect = unasked;
    answers = refused_alone refusal result is;
    does = unasked_by b plans book;
    tells = λ _ history _. not_told plans history (refused refusal) unasked result (λ e. cc);
    steady = λ _ none. absurd none;
  }

-- ---- a page

-- the request is for what the book is only read for
abbrev pub IsOfPage : Ask → Type 0
IsOfPage (refused refusal) = ⊥
IsOfPage (me page account) = Unit {0}
IsOfPage overruns = Unit {0}
IsOfPage (look query) = Unit {0}
IsOfPage (credit topup) = ⊥

page_mutes : (ask : Ask) → IsOfPage ask → Mutes ask passed
page_mutes (refused refusal) none = absurd none
page_mutes (me page account) of = inr refl
page_mutes overruns of = inr refl
page_mutes (look query) of = inr refl
page_mutes (credit topup) none = absurd none

page_answers : (ask : Ask) (octets : List ℕ) (effect : Effect) → IsOfPage ask
    → (effect ≡ looked) ⊎ ((octets ≡ unavailable_response) × (effect ≡ passed))
    → AnswersAsk ask octets effect
page_answers (refused refusal) octets effect none h = absurd none
page_answers (me page account) octets effect of h = h
page_answers overruns octets effect of h = h
page_answers (look query) octets effect of h = h
page_answers (credit topup) octets effect none h = absurd none

-- what reading did
abbrev pub page_effect : {T E : Type 0} → Result T PageError → Result (Vec ℕ Global) E → Effect
page_effect (Ok t) (Ok octets) = looked
page_effect (Err error) (Ok octets) = passed
page_effect page (Err e) = passed

module _ {B T E : Type 0} (of_told : T → ℕ × Data) (b : Ghosts B) (plans : List Plan) (ask : Ask)
    (old new : B) (settles : Settles b) where
  page_own : (page : Result T PageError) (result : Result (Vec ℕ Global) E)
      → IsOwn (page_effect page result)
  page_own (Ok t) (Ok octets) = tt
  page_own (Err error) (Ok octets) = tt
  page_own page (Err e) = tt

  page_asked : (page : Result T PageError) (result : Result (Vec ℕ Global) E)
      → IsUnasked (page_effect page result) → ⊥
  page_asked (Ok t) (Ok octets) none = none
  page_asked (Err error) (Ok octets) none = none
  page_asked page (Err e) none = none

  page_stays : (page : Result T PageError) (result : Result (Vec ℕ Global) E)
      (history : History) → after_effect history (page_effect page result) ≡ history
  page_stays (Ok t) (Ok octets) history = refl
  page_stays (Err error) (Ok octets) history = refl
  page_stays page (Err e) history = refl

  page_holds : (page : Result T PageError) (result : Result (Vec ℕ Global) E)
      (history : History) → Holds plans history (page_effect page result)
  page_holds (Ok t) (Ok octets) history = tt
  page_holds (Err error) (Ok octets) history = tt
  page_holds page (Err e) history = tt

  page_open : (page : Result T PageError) (result : Result (Vec ℕ Global) E)
      → ShowsBy of_told plans ask b old new page
      → b.is_sound new → IsTold (page_effect page result) → b.is_open new
  page_open (Ok t) (Ok octets) shows sound told = shows.answers sound
  page_open (Err error) (Ok octets) shows sound told = absurd told
  page_open page (Err e) shows sound told = absurd told

  page_says : (page : Result T PageError) (result : Result (Vec ℕ Global) E) → IsOfPage ask
      → IfOk result (λ octets. IsResponseBy of_told page octets.items)
      → AnswersOrMutes ask result (page_effect page result)
  page_says (Ok t) (Ok octets) of is = page_answers ask octets.items looked of (inl refl)
  page_says (Err Unavailable) (Ok octets) of is =
      page_answers ask octets.items passed of (inr (is, refl))
  page_says (Err Memory) (Ok octets) of is = absurd is
  page_says page (Err e) of is = page_mutes ask of

  page_tells : (page : Result T PageError) (result : Result (Vec ℕ Global) E)
      → ShowsBy of_told plans ask b old new page
      → IfOk result (λ octets. IsResponseBy of_told page octets.items)
      → b.is_sound new → (history : History) → StoodFor b plans old history
      → IfOk result (λ octets. TellsAsk plans history ask octets.items (page_effect page result))
  page_tells (Ok t) (Ok octets) shows is sound history stood =
      let opened = shows.answers sound in
      λ _. (of_told t, shows.told opened history (stood (shows.reads.was_open opened)), is)
  page_tells (Err error) (Ok octets) shows is sound history stood = λ e. absurd (cc e)
  page_tells page (Err e) shows is sound history stood = tt

  -- what was read
  pub read_handles : (page : Result T PageError) (result : Result (Vec ℕ Global) E)
      → IsOfPage ask
      → (b.is_steady old → IsOfBalance ask
      → IfOk result (λ octets. octets.items ≢ unavailable_response))
      → ShowsBy of_told plans ask b old new page
      → IfOk result (λ octets. IsResponseBy of_told page octets.items)
      → Handles b plans ask old new result
  read_handles page result of steady shows is = record {
    effect = page_effect page result;
    answers = page_says page result of is;
    does = only_looked_by b plans old new (page_effect page result) shows.reads.was_sound
        shows.reads.was_open shows.reads.keeps_steady shows.reads.same shows.reads.adds_none
        (page_own page result) (page_asked page result) (page_stays page result)
        (page_open page result shows)
        (λ _ history _. page_holds page result history) settles;
    tells = page_tells page result shows is;
    steady = steady;
  }

page_steady : {E : Type 0} (page : Result Value PageError) (result : Result (Vec ℕ Global) E)
    → page ≢ Err Unavailable → IfOk result (λ octets. IsPageResponse page octets.items)
    → IfOk result (λ octets. octets.items ≢ unavailable_response)
page_steady (Ok body) (Ok octets) told is = λ e. told-unavailable (view body) (sym is ∙ e)
page_steady (Err Unavailable) (Ok octets) told is = absurd (told refl)
page_steady (Err Memory) (Ok octets) told is = absurd is
page_steady page (Err e) told is = tt

-- a request for a page
pub page_handles : {B E : Type 0} (b : Ghosts B) (plans : List Plan) (ask : Ask) (old new : B)
    → Settles b → (page : Result Value PageError) (result : Result (Vec ℕ Global) E)
    → IsOfPage ask → (b.is_steady old → IsOfBalance ask → page ≢ Err Unavailable)
    → Shows plans ask b old new page
    → IfOk result (λ octets. IsPageResponse page octets.items)
    → Handles b plans ask old new result
page_handles b plans ask old new settles page result of steady shows is =
    read_handles page_of b plans ask old new settles page result of
    (λ s balance. page_steady page result (steady s balance) is) shows is

-- ---- a top-up

topup_tells : (plans : List Plan) (history : History) (topup : TopUpFacts)
    (recorded : Result Recorded RecordError) (octets : List ℕ)
    → TellsAsk plans history (credit topup) octets (effect_of (entry.TopUp topup) recorded)
topup_tells plans history topup (Ok New) octets e = absurd (cc e)
topup_tells plans history topup (Ok Repeat) octets e = absurd (cc e)
topup_tells plans history topup (Err (record_error.VoucherDiffers kept)) octets e = absurd (cc e)
topup_tells plans history topup (Err (record_error.BalanceLimit balance)) octets e = absurd (cc e)
topup_tells plans history topup (Err record_error.Unavailable) octets e = absurd (cc e)

-- a top-up, by what recording returned
pub recorded_handles : {B E : Type 0} (b : Ghosts B) (plans : List Plan) (old new : B)
    (topup : TopUpFacts) (recorded : Result Recorded RecordError) (octets : Vec ℕ Global)
    → Does b plans old new (effect_of (entry.TopUp topup) recorded)
    → octets.items ≡ recorded_response recorded
    → Handles {E = E} b plans (credit topup) old new (Ok octets)
recorded_handles b plans old new topup recorded octets does is = record {
  effect = effect_of (entry.TopUp topup) recorded;
  answers = (recorded, is, refl);
  does = does;
  tells = λ _ history _. topup_tells plans history topup recorded octets.items;
  steady = λ _ none. absurd none;
}
