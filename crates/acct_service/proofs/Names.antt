-- If no client has the name of a line, no report of a line is accepted.
use Rattle.std.proofs.Common.{◌≡◌, inl, inr, ℕ, false, List, [], ◌∷◌, ◌++◌, refl, sym, ◌∙◌}
use Rattle.std.proofs.Common.{ap, subst, append_assoc, true≢false, Option, Some, None, Result, Ok, Err, Bool}
use Rattle.std.proofs.Common.{true, cond, codes}
use Rattle.std.proofs.lemmas.List.{append_cancel_right}
use Rattle.std.proofs.lemmas.List.Elements.{Contains-append_cases, filter_map-append}
use Rattle.std.specs.Prelude.{Contains}
use Rattle.std.specs.List.{flat_map, concat}
use Rattle.acct_model.specs.declared.plan.Plan.{Plan}
use Rattle.acct_model.specs.declared.entry.Entry.{Entry}
use Rattle.acct_model.specs.declared.entry.Entry.TheVariants as entry
use Rattle.acct_model.specs.Report.{ReportFacts}
use Rattle.acct_model.specs.Vouchers.{TopUpFacts}
use Rattle.acct_model.specs.Entries.{Attributes, IsEntryOf}
use Rattle.acct_model.specs.Plans.{plans_added}
use Rattle.acct_model.specs.History.{Accepted, PlansAdded, History, session_of, report_in}
use Rattle.acct_model.specs.History.{all_reports}
use Rattle.acct_model.proofs.Lists.{here, deeper, nowhere, front_or_behind, from_map, find-some}
use Rattle.acct_book_forward.specs.Carrying.{is_line}
use Rattle.acct_book.specs.Effect.{Effect, added, repeated, differs, limited, failed, looked}
use Rattle.acct_book.specs.Effect.{passed, unasked, after_effect}
use Rattle.acct_wire.specs.declared.client.Client.{Client}
use Rattle.acct_wire.specs.declared.reason.Reason.{Reason}
use Rattle.acct_wire.specs.declared.reason.Reason.TheVariants as why
use Rattle.acct_wire.specs.declared.hearing.StampedClient.{StampedClient}
use Rattle.acct_wire.specs.Clients.{ClientsFacts, has_address}
use Rattle.acct_wire.specs.Hearing.{heard, teller, told_of, stamped_called, device}
use Rattle.acct_wire.specs.Datagrams.{RequestAsks}
use Rattle.acct_wire.specs.Outcomes as wire
use Rattle.acct_site.specs.declared.config.Config.{Config}
use Rattle.acct_files.specs.declared.import_report.Cause.{Cause}
use Rattle.acct_files.specs.declared.import_report.Cause.TheVariants as cause
use Rattle.acct_files.specs.declared.import_report.Outcome.{Outcome}
use Rattle.acct_files.specs.declared.import_report.Outcome.TheVariants as outcome
use Rattle.acct_files.specs.Vouchers.{Fields, asked_by}
use Rattle.acct_files.specs.Importing.{Becomes, Imported}
use Rattle.acct_service.specs.declared.event.What.{What}
use Rattle.acct_service.specs.declared.event.What.TheVariants.{Datagram, Desk}
use Rattle.acct_service.specs.Machine.{Answer, replied, dropped, mute, AnswersEvent, Visit}
use Rattle.acct_service.specs.Machine.{IsAnswered, Run}
use Rattle.acct_service.specs.Serving.{HasFailed}
use Rattle.acct_service.specs.Life.{Span, served, imported, extended, carried, Past, made_with}
use Rattle.acct_service.specs.Life.{LivesOn, Life, NoneIsOf, NoneIsLate, carried_in}
use Rattle.acct_service.specs.Life.{HaveProperNames}
use Rattle.acct_service.proofs.Aside.{only_carried}
use Rattle.acct_service.proofs.Tried.{OfReport, Tries, asked_tries, muted_tries}
use Rattle.acct_service.proofs.Spans.{Grown, moved, same_growth}

-- ---- what an event asks for

-- the report is of no line
abbrev NoLine : ReportFacts → Type 0
NoLine report = is_line report.client ≡ false

-- the entry is no report of a line
abbrev IsProper : Entry → Type 0
IsProper asked = OfReport NoLine asked

-- nor is the one that an effect adds or tries
abbrev TriesProper : Effect → Type 0
TriesProper effect = Tries NoLine effect

abbrev Named : ClientsFacts → Type 0
Named clients = (client : Client) → Contains clients.list client → is_line client.name ≡ false

spelled_proper : (name : List ℕ) (attributes : Attributes) (moment : ℕ) (asked : Entry)
    → is_line name ≡ false → IsEntryOf name attributes moment asked → IsProper asked
spelled_proper name attributes moment (entry.Report r) proper (status, kind, is, also, same) =
    subst (λ (x : ReportFacts). is_line x.client ≡ false) (sym same) proper
spelled_proper name attributes moment (entry.Restart r) proper spelled = tt
spelled_proper name attributes moment (entry.TopUp t) proper spelled = tt

-- the name of a device behind a proxy is no line's
device_proper : (name device : List ℕ) → is_line name ≡ false
    → is_line (concat (name ∷ codes "/" ∷ device ∷ [])) ≡ false
device_proper [] device proper = refl
device_proper (octet ∷ name) device proper = proper

either_proper : (proxy : Bool) (name device : List ℕ) → is_line name ≡ false
    → is_line (cond proxy (concat (name ∷ codes "/" ∷ device ∷ [])) name) ≡ false
either_proper true name device proper = device_proper name device proper
either_proper false name device proper = proper

told_proper : (name : List ℕ) (attributes : Attributes) (found : Option StampedClient)
    → is_line name ≡ false → is_line (told_of name attributes found) ≡ false
told_proper name attributes None proper = proper
told_proper name attributes (Some client) proper =
    either_proper client.proxy name (device attributes) proper

asks_proper : (clients : ClientsFacts) (source bytes : List ℕ) (moment : ℕ) (client : Client)
    (identifier : ℕ) (authenticator : List ℕ) (attributes : Attributes) (asked : Entry)
    → Named clients
    → RequestAsks clients source bytes moment client identifier authenticator attributes asked
    → IsProper asked
asks_proper clients source bytes moment client identifier authenticator attributes asked named
    asks =
    spelled_proper (teller clients.stamping client.name attributes)
    (heard clients.stamping client.name attributes) moment asked
    (told_proper client.name attributes (stamped_called client.name clients.stamping)
    (named client (find-some (has_address source) clients.list client asks.known).0)) asks.spelled

dropped_proper : (oldest : Option ℕ) (clients : ClientsFacts) (source bytes : List ℕ) (moment : ℕ) (reason : Reason)
    (effect : Effect) → Named clients
    → wire.DropsWithin oldest clients source bytes moment reason effect → TriesProper effect
dropped_proper oldest clients source bytes moment why.BalanceLimit effect named says =
    subst TriesProper (sym says.3.1) tt
dropped_proper oldest clients source bytes moment why.Unavailable effect named says =
    let by = says.1 in
    elim says.2 [
      | inl old ↦ subst TriesProper (sym old.1) tt
      | inr recent ↦ subst TriesProper (sym recent.1)
          (asks_proper clients source bytes moment by.client by.identifier by.authenticator
          by.attributes says.0 named by.asks)
    ]
dropped_proper oldest clients source bytes moment reason effect named says =
    subst TriesProper (sym says.1) tt

answered_proper : (oldest : Option ℕ) (config : Config) (moment : ℕ) (what : What) (answer : Answer)
    (effect : Effect) → Named config.clients → AnswersEvent oldest config moment what answer effect
    → TriesProper effect
answered_proper oldest config moment (Datagram source port bytes) (replied octets) effect named
    (asked, by, recent, is) =
    subst TriesProper (sym is)
    (asks_proper config.clients source bytes moment by.client by.identifier by.authenticator
    by.attributes asked named by.asks)
answered_proper oldest config moment (Datagram source port bytes) (dropped reason) effect named says =
    dropped_proper oldest config.clients source bytes moment reason effect named says
answered_proper oldest config moment (Datagram source port bytes) mute effect named says = absurd says
answered_proper oldest config moment (Desk bytes) (replied octets) effect named (ask, asks, says) =
    asked_tries NoLine ask octets effect says
answered_proper oldest config moment (Desk bytes) (dropped reason) effect named says = absurd says
answered_proper oldest config moment (Desk bytes) mute effect named (ask, asks, says) =
    muted_tries NoLine ask effect says

visit_proper : (visit : Visit) → Named visit.site.clients → IsAnswered visit
    → TriesProper visit.effect
visit_proper visit named answered =
    answered_proper visit.oldest visit.site visit.event.moment visit.event.what visit.answer
    visit.effect named answered

-- ---- members

-- no report of a line was accepted
abbrev GrowsProper : History → History → Type 0
GrowsProper old new = (newer : History) × (new ≡ newer ++ old)
    × ((report : ReportFacts) → Contains (all_reports newer) report
    → is_line report.client ≡ false)

proper_none : (old new : History) → new ≡ old → GrowsProper old new
proper_none old new is = ([], is, λ report at. absurd (nowhere report at))

proper_one : (old new : History) (e : Entry) → IsProper e → new ≡ Accepted e ∷ old
    → GrowsProper old new
proper_one old new (entry.Report r) proper is = (
  Accepted (entry.Report r) ∷ [],
  is,
  λ report at. elim (front_or_behind r report [] at) [
    | inl same ↦ subst (λ (x : ReportFacts). is_line x.client ≡ false) same proper
    | inr none ↦ absurd (nowhere report none)
  ],
)
proper_one old new (entry.Restart r) proper is =
    (Accepted (entry.Restart r) ∷ [], is, λ report at. absurd (nowhere report at))
proper_one old new (entry.TopUp t) proper is =
    (Accepted (entry.TopUp t) ∷ [], is, λ report at. absurd (nowhere report at))

proper_both : (old mid new : History) → GrowsProper old mid → GrowsProper mid new
    → GrowsProper old new
proper_both old mid new (newer, is, first) (newest, was, second) = (
  newest ++ newer,
  was ∙ ap (λ h. newest ++ h) is ∙ sym (append_assoc newest newer old),
  λ report at. elim (Contains-append_cases (all_reports newest) (all_reports newer) report
      (subst (λ rs. Contains rs report) (filter_map-append report_in newest newer) at)) [
        | inl late ↦ second report late
        | inr early ↦ first report early
      ],
)

effect_proper : (old : History) (effect : Effect) → TriesProper effect
    → GrowsProper old (after_effect old effect)
effect_proper old (added e) proper = proper_one old (Accepted e ∷ old) e proper refl
effect_proper old (repeated e) proper = proper_none old old refl
effect_proper old (differs e kept) proper = proper_none old old refl
effect_proper old (limited e balance) proper = proper_none old old refl
effect_proper old (failed e) proper = proper_none old old refl
effect_proper old looked proper = proper_none old old refl
effect_proper old passed proper = proper_none old old refl
effect_proper old unasked proper = proper_none old old refl

abbrev AreNamed : List Visit → Type 0
AreNamed visits = (visit : Visit) → Contains visits visit → Named visit.site.clients

run_proper : (plans : List Plan) (old new : History) (visits : List Visit) → AreNamed visits
    → Run plans old visits new → GrowsProper old new
run_proper plans old new [] named is = proper_none old new is
run_proper plans old new (visit ∷ visits) named (mid, step, rest) =
    proper_both old mid new
    (subst (GrowsProper old) (sym step.leads) (effect_proper old visit.effect
    (visit_proper visit (named visit (here visit visits)) step.answers)))
    (run_proper plans mid new visits (λ v at. named v (deeper visit v visits at)) rest)

run_answered : (plans : List Plan) (old new : History) (visits : List Visit)
    → Run plans old visits new → (visit : Visit) → Contains visits visit → IsAnswered visit
run_answered plans old new [] is visit at = absurd (nowhere visit at)
run_answered plans old new (first ∷ visits) (mid, step, rest) visit at =
    elim (front_or_behind first visit visits at) [
      | inl is ↦ subst IsAnswered is step.answers
      | inr behind ↦ run_answered plans mid new visits rest visit behind
    ]

failed_proper : (plans : List Plan) (old new : History) (visits : List Visit) → AreNamed visits
    → Run plans old visits new → (asked : Entry) → HasFailed visits asked → IsProper asked
failed_proper plans old new visits named run asked tried =
    let found = from_map (λ (visit : Visit). visit.effect) visits (failed asked) tried in
    subst TriesProper found.2 (visit_proper found.0 (named found.0 found.1)
    (run_answered plans old new visits run found.0 found.1))

line_proper : (asked : Result TopUpFacts Cause) (told : Outcome) (effect : Effect)
    → Becomes asked told effect → TriesProper effect
line_proper (Ok t) outcome.Added effect is = subst TriesProper (sym is) tt
line_proper (Ok t) outcome.Repeated effect is = subst TriesProper (sym is) tt
line_proper (Ok t) (outcome.Refused cause.VoucherDiffers) effect (kept, is) =
    subst TriesProper (sym is) tt
line_proper (Ok t) (outcome.Refused cause.BalanceLimit) effect (balance, is) =
    subst TriesProper (sym is) tt
line_proper (Ok t) (outcome.Refused other) effect none = absurd none
line_proper (Err told) outcome.Added effect none = absurd none
line_proper (Err told) outcome.Repeated effect none = absurd none
line_proper (Err told) (outcome.Refused other) effect (same, is) = subst TriesProper (sym is) tt

lines_proper : (plans : List Plan) (moment : ℕ) (old new : History) (rows : List Fields)
    (outcomes : List Outcome) → Imported plans moment old rows outcomes new
    → GrowsProper old new
lines_proper plans moment old new [] [] is = proper_none old new is
lines_proper plans moment old new [] (told ∷ outcomes) run = absurd run
lines_proper plans moment old new (fields ∷ rows) [] run = absurd run
lines_proper plans moment old new (fields ∷ rows) (told ∷ outcomes)
    (effect, becomes, holds, rest) =
    proper_both old (after_effect old effect) new
    (effect_proper old effect (line_proper (asked_by moment fields) told effect becomes))
    (lines_proper plans moment (after_effect old effect) new rows outcomes rest)

-- ---- spans

span_proper : (old new : Past) (span : Span) → HaveProperNames span → Grown old span new
    → GrowsProper old.history new.history
span_proper old new (served those visits) named g =
    let run = g.goes.1 in
    proper_both old.history g.end new.history
    (run_proper those old.history g.end visits named run)
    (elim g.stop [
      | inl is ↦ proper_none g.end new.history is
      | inr (asked, tried, fine, is) ↦ proper_one g.end new.history asked
          (failed_proper those old.history g.end visits named run asked tried) is
    ])
span_proper old new (imported config moment rows outcomes tried) named g =
    proper_both old.history g.end new.history
    (lines_proper config.plans moment old.history g.end rows outcomes g.goes.1)
    (elim g.stop [
      | inl is ↦ proper_none g.end new.history is
      | inr (asked, (t, which, same), fine, is) ↦ proper_one g.end new.history asked
          (subst IsProper (sym same) tt) is
    ])
span_proper old new (extended more) named g =
    elim g.stop [
      | inl is ↦ (
        PlansAdded (plans_added old.plans more) ∷ [],
        is ∙ g.goes.1,
        λ report at. absurd (nowhere report at),
      )
      | inr (asked, tried, fine, is) ↦ absurd tried
    ]
span_proper old new (carried those selection batches) named g = absurd g.nothing

whole_proper : (old new : Past) (span : Span) → HaveProperNames span → LivesOn old span new
    → GrowsProper old.whole new.whole
whole_proper old new span named lives =
    elim (moved old new span lives) [
      | inl g ↦ let (newer, is, proper) = span_proper old new span named g in (
        newer,
        same_growth newer g.newer old.history new.history old.whole new.whole is g.is g.was,
        proper,
      )
      | inr c ↦ proper_none old.whole new.whole c.whole
    ]

pub none_late : (plans : List Plan) (before : List Span) (old : Past) (span : Span) (new : Past)
    → Life (made_with plans) before old → LivesOn old span new → HaveProperNames span
    → NoneIsOf (flat_map carried_in before) old new → NoneIsLate old new
none_late plans before old span new life lives named (newer, is, none) =
    let (others, was, proper) = whole_proper old new span named lives in
    let same : newer ≡ others = append_cancel_right newer others old.whole (sym is ∙ was) in (
      newer,
      is,
      λ report at late. elim (only_carried plans old before life (session_of report) late) [
        | inl there ↦ none report at there
        | inr line ↦ true≢false (sym line
            ∙ proper report (subst (λ h. Contains (all_reports h) report) same at))
      ],
    )
