-- What was received and how it was answered leave one history of what was accepted.
use Rattle.std.proofs.Common.{◌≡◌, ◌⊎◌, ◌∙◌, ℕ, List, [], ◌∷◌, Result, Ok, Err, sym, ap, subst}
use Rattle.std.proofs.Common.{◌<◌, refl, inl, inr, get_or, arith, lit<}
use Rattle.std.specs.Prelude.{Option}
use Rattle.std.specs.Fmt.{digits}
use Rattle.std.specs.List.{AllZip}
use Rattle.acct_model.specs.declared.plan.Plan.{Plan}
use Rattle.acct_model.specs.declared.entry.Entry.{Entry}
use Rattle.acct_model.specs.declared.entry.Entry.TheVariants as entry
use Rattle.acct_model.specs.History.{Accepted, History}
use Rattle.acct_book.specs.declared.recording.Recorded.{Recorded}
use Rattle.acct_book.specs.declared.recording.Recorded.TheVariants.{New, Repeat}
use Rattle.acct_book.specs.declared.recording.RecordError.{RecordError}
use Rattle.acct_book.specs.declared.recording.RecordError.TheVariants.{VoucherDiffers, BalanceLimit}
use Rattle.acct_book.specs.declared.recording.RecordError.TheVariants.{Unavailable}
use Rattle.acct_book.specs.Effect.{Effect, after_effect, effect_of, added, unasked, looked, passed}
use Rattle.acct_wire.specs.declared.reason.Reason.{Reason}
use Rattle.acct_wire.specs.declared.reason.Reason.TheVariants as why
use Rattle.acct_wire.specs.Clients.{ClientsFacts}
use Rattle.acct_wire.specs.Outcomes.{DropsWithin}
use Rattle.acct_wire.proofs.Asked.{one_entry}
use Rattle.acct_desk.specs.Asks.{Ask, refused, me, overruns, look, credit}
use Rattle.acct_desk.specs.Handling.{AnswersAsk, Mutes}
use Rattle.acct_desk.specs.Responses.{recorded_response, added_response}
use Rattle.acct_desk.proofs.AskLemmas.{one_ask}
use Rattle.acct_desk_pages.specs.Responses.{unavailable_response}
use Rattle.acct_site.specs.declared.config.Config.{Config}
use Rattle.acct_service.specs.declared.event.What.{What}
use Rattle.acct_service.specs.declared.event.What.TheVariants.{Datagram, Desk}
use Rattle.acct_service.specs.Machine.{Answer, replied, dropped, mute, AnswersEvent, Visit, Run}
use Rattle.acct_service.specs.Machine.{IsAnswered}
use Rattle.acct_service.specs.Promise.{accepted, IsAnsweredAlike}

-- ---- what adds nothing

-- after this effect the history is as it was
abbrev AddsNothing : Effect → Type 0
AddsNothing effect = (history : History) → after_effect history effect ≡ history

none_by : (effect other : Effect) → effect ≡ other → AddsNothing other → AddsNothing effect
none_by effect other is none = subst AddsNothing (sym is) none

unasked_none : (effect : Effect) → effect ≡ unasked → AddsNothing effect
unasked_none effect is = none_by effect unasked is (λ history. refl)

looked_none : (effect : Effect) (Told : Type 0) → (effect ≡ looked) ⊎ (Told × (effect ≡ passed))
    → AddsNothing effect
looked_none effect Told (inl is) = none_by effect looked is (λ history. refl)
looked_none effect Told (inr (told, is)) = none_by effect passed is (λ history. refl)

dropped_none : (oldest : Option ℕ) (clients : ClientsFacts) (source bytes : List ℕ) (moment : ℕ)
    (reason : Reason) (effect : Effect)
    → DropsWithin oldest clients source bytes moment reason effect → AddsNothing effect
dropped_none oldest clients source bytes moment why.BalanceLimit effect says =
    none_by effect _ says.3.1 (λ history. refl)
dropped_none oldest clients source bytes moment why.Unavailable effect says =
    elim says.2 [
      | inl old ↦ unasked_none effect old.1
      | inr recent ↦ none_by effect _ recent.1 (λ history. refl)
    ]
dropped_none oldest clients source bytes moment reason effect says = unasked_none effect says.1

muted_none : (ask : Ask) (effect : Effect) → Mutes ask effect → AddsNothing effect
muted_none (refused refusal) effect is = unasked_none effect is
muted_none (me page account) effect (inl is) = unasked_none effect is
muted_none (me page account) effect (inr is) = none_by effect passed is (λ history. refl)
muted_none overruns effect (inl is) = unasked_none effect is
muted_none overruns effect (inr is) = none_by effect passed is (λ history. refl)
muted_none (look query) effect (inl is) = unasked_none effect is
muted_none (look query) effect (inr is) = none_by effect passed is (λ history. refl)
muted_none (credit topup) effect is = unasked_none effect is

-- ---- two effects of one answer

-- both have the same history after them
abbrev AreAlike : Effect → Effect → Type 0
AreAlike one other = (history : History) → after_effect history one ≡ after_effect history other

both_none : (one other : Effect) → AddsNothing one → AddsNothing other → AreAlike one other
both_none one other first second history = first history ∙ sym (second history)

-- the place of a response where its status differs from that of an added top-up
abbrev status_digit : ℕ → List ℕ → ℕ
status_digit place octets = get_or octets place 0

-- such places differ
above : (low high : ℕ) → low < high → high ≡ low → ⊥
above low high less same = omega (arith, less, same)

below : (low high : ℕ) → low < high → low ≡ high → ⊥
below low high less same = omega (arith, less, same)

-- `201 Created` begins no other response to a top-up
created_differs : (recorded : Result Recorded RecordError)
    → added_response ≡ recorded_response recorded → recorded ≡ Ok New
unfolding added_response unavailable_response digits
created_differs (Ok New) is = refl
created_differs (Ok Repeat) is = absurd (above 48 49 (lit< tt) (ap (status_digit 11) is))
created_differs (Err (VoucherDiffers kept)) is =
    absurd (below 50 52 (lit< tt) (ap (status_digit 9) is))
created_differs (Err (BalanceLimit balance)) is =
    absurd (below 50 52 (lit< tt) (ap (status_digit 9) is))
created_differs (Err Unavailable) is = absurd (below 50 53 (lit< tt) (ap (status_digit 9) is))

new_or_none : (asked : Entry) (recorded : Result Recorded RecordError)
    → (recorded ≡ Ok New) ⊎ AddsNothing (effect_of asked recorded)
new_or_none asked (Ok New) = inl refl
new_or_none asked (Ok Repeat) = inr (λ history. refl)
new_or_none asked (Err (VoucherDiffers kept)) = inr (λ history. refl)
new_or_none asked (Err (BalanceLimit balance)) = inr (λ history. refl)
new_or_none asked (Err Unavailable) = inr (λ history. refl)

same_alike : (asked : Entry) (one other : Result Recorded RecordError) → one ≡ other
    → AreAlike (effect_of asked one) (effect_of asked other)
same_alike asked one other is history = ap (λ r. after_effect history (effect_of asked r)) is

-- the response to a top-up says whether it was added
recorded_alike : (asked : Entry) (one other : Result Recorded RecordError)
    → recorded_response one ≡ recorded_response other
    → AreAlike (effect_of asked one) (effect_of asked other)
recorded_alike asked one other same =
    elim (new_or_none asked one) [
      | inl is ↦ same_alike asked one other
          (is ∙ sym (created_differs other (sym (ap recorded_response is) ∙ same)))
      | inr none ↦ elim (new_or_none asked other) [
        | inl is ↦ same_alike asked one other
            (created_differs one (sym (ap recorded_response is) ∙ sym same) ∙ sym is)
        | inr none_too ↦ both_none (effect_of asked one) (effect_of asked other) none none_too
      ]
    ]

by_effects : (one other first second : Effect) → one ≡ first → other ≡ second
    → AreAlike first second → AreAlike one other
by_effects one other first second is is_too alike history =
    ap (after_effect history) is ∙ alike history ∙ sym (ap (after_effect history) is_too)

asked_alike : (ask : Ask) (octets : List ℕ) (one other : Effect) → AnswersAsk ask octets one
    → AnswersAsk ask octets other → AreAlike one other
asked_alike (refused refusal) octets one other (told, is) (told_too, is_too) =
    both_none one other (unasked_none one is) (unasked_none other is_too)
asked_alike (me page account) octets one other x y =
    both_none one other (looked_none one _ x) (looked_none other _ y)
asked_alike overruns octets one other x y =
    both_none one other (looked_none one _ x) (looked_none other _ y)
asked_alike (look query) octets one other x y =
    both_none one other (looked_none one _ x) (looked_none other _ y)
asked_alike (credit topup) octets one other (first, told, is) (second, told_too, is_too) =
    by_effects one other (effect_of (entry.TopUp topup) first)
    (effect_of (entry.TopUp topup) second) is is_too
    (recorded_alike (entry.TopUp topup) first second (sym told ∙ told_too))

-- one answer to one event has one effect on a history
event_alike : (oldest : Option ℕ) (config : Config) (moment : ℕ) (what : What) (answer : Answer)
    (one other : Effect) → AnswersEvent oldest config moment what answer one
    → AnswersEvent oldest config moment what answer other → AreAlike one other
event_alike oldest config moment (Datagram source port bytes) (replied octets) one other
    (asked, reply, recent, is) (asked_too, reply_too, recent_too, is_too) =
    by_effects one other (added asked) (added asked_too) is is_too
    (λ history. ap (λ e. Accepted e ∷ history)
    (one_entry config.clients source bytes moment reply.client reply_too.client reply.identifier
    reply_too.identifier reply.authenticator reply_too.authenticator reply.attributes
    reply_too.attributes asked asked_too reply.asks reply_too.asks).4)
event_alike oldest config moment (Datagram source port bytes) (dropped reason) one other x y =
    both_none one other
    (dropped_none oldest config.clients source bytes moment reason one x)
    (dropped_none oldest config.clients source bytes moment reason other y)
event_alike oldest config moment (Datagram source port bytes) mute one other x y = absurd x
event_alike oldest config moment (Desk bytes) (replied octets) one other (ask, asks, x)
    (ask_too, asks_too, y) =
    asked_alike ask octets one other x
    (subst (λ a. AnswersAsk a octets other)
    (one_ask config.keys config.plans bytes moment ask_too ask asks_too asks) y)
event_alike oldest config moment (Desk bytes) (dropped reason) one other x y = absurd x
event_alike oldest config moment (Desk bytes) mute one other (ask, asks, x) (ask_too, asks_too, y) =
    both_none one other (muted_none ask one x) (muted_none ask_too other y)

-- ---- visits

visit_alike : (one other : Visit) → IsAnsweredAlike one other → IsAnswered one → IsAnswered other
    → AreAlike one.effect other.effect
visit_alike one other (event, site, oldest, answer) first second =
    event_alike one.oldest one.site one.event.moment one.event.what one.answer one.effect
    other.effect first
    (subst (λ a. AnswersEvent one.oldest one.site one.event.moment one.event.what a other.effect)
    (sym answer)
    (subst (λ o. AnswersEvent o one.site one.event.moment one.event.what other.answer other.effect)
    (sym oldest)
    (subst (λ s. AnswersEvent other.oldest s one.event.moment one.event.what other.answer
    other.effect) (sym site)
    (subst (λ e. AnswersEvent other.oldest other.site e.moment e.what other.answer other.effect)
    (sym event) second))))

-- a run leads to what was accepted, and to no other history
pub run_accepts : (plans : List Plan) (history : History) (visits : List Visit) (after : History)
    → Run plans history visits after → after ≡ accepted history visits
run_accepts plans history [] after is = is
run_accepts plans history (visit ∷ visits) after (next, step, rest) =
    run_accepts plans next visits after rest ∙ ap (λ h. accepted h visits) step.leads

-- so do two runs, whose visits are the same up to their effects
pub runs_alike : (plans : List Plan) (history : History) (visits others : List Visit)
    (after last : History) → AllZip IsAnsweredAlike visits others → Run plans history visits after
    → Run plans history others last → last ≡ after
runs_alike plans history [] [] after last alike is is_too = is_too ∙ sym is
runs_alike plans history [] (other ∷ others) after last alike is run = absurd alike
runs_alike plans history (visit ∷ visits) [] after last alike run is = absurd alike
runs_alike plans history (visit ∷ visits) (other ∷ others) after last (same, alike)
    (next, step, rest) (next_too, step_too, rest_too) =
    let one : next_too ≡ next = step_too.leads
    ∙ sym (visit_alike visit other same step.answers step_too.answers history) ∙ sym step.leads in
    runs_alike plans next visits others after last alike rest
    (subst (λ h. Run plans h others last) one rest_too)
