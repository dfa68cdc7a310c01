-- Why no report is accepted that is too old, and none of a session that was carried forward.
use Rattle.std.proofs.Common.{◌≡◌, ◌+◌, ◌-◌, ◌<◌, ◌≤◌, inl, inr, List, [], ◌∷◌, ℕ, sym, ap, subst, ◌∙◌}
use Rattle.std.proofs.Common.{arith, map, true, false, refl}
use Rattle.std.specs.Prelude.{Some, None, Option, Contains, nat_lt, max}
use Rattle.std.proofs.lemmas.Bool.{cases_order}
use Rattle.std.proofs.lemmas.Bool.Decides.{nat_tests}
use Rattle.std.specs.Prelude.{Bool, bytes_eq, option_map}
use Rattle.std.specs.List.{list_any}
use Rattle.acct_model.specs.declared.plan.Plan.{Plan}
use Rattle.acct_model.specs.History.{largest, first_of, reports, plan_of}
use Rattle.acct_model.proofs.Lists.{nowhere, front_or_behind}
use Rattle.acct_book.specs.declared.key.Key.{Key}
use Rattle.acct_book.specs.declared.row.SessionState.{SessionState}
use Rattle.acct_book.specs.declared.row.SessionState.TheVariants.{Live, Closed, Stopped}
use Rattle.acct_book.specs.Row.{RowFacts}
use Rattle.acct_book.specs.Rows.{name_of, row_of_reports, row_from, is_restarted}
use Rattle.acct_book_forward.specs.Carrying.{SelectionFacts, is_line, stay_of, limit_of}
use Rattle.acct_model.specs.declared.entry.Entry.{Entry}
use Rattle.acct_model.specs.declared.entry.Entry.TheVariants as entry
use Rattle.acct_model.specs.Report.{ReportFacts}
use Rattle.acct_model.specs.Entries.{Attributes, count_at, IsEntryOf}
use Rattle.acct_book.specs.Effect.{Effect}
use Rattle.acct_wire.specs.declared.hearing.Stamping.{Stamping}
use Rattle.acct_wire.specs.declared.reason.Reason.{Reason}
use Rattle.acct_wire.specs.declared.reason.Reason.TheVariants as why
use Rattle.acct_wire.specs.Clients.{ClientsFacts}
use Rattle.acct_wire.specs.Datagrams.{IsTooOld, RequestAsksFor}
use Rattle.acct_wire.specs.Hearing.{heard, teller}
use Rattle.acct_wire.proofs.Heard.{delay_heard}
use Rattle.acct_wire.specs.Outcomes.{DropsWithin}
use Rattle.acct_site.specs.declared.config.Config.{Config}
use Rattle.acct_service.specs.declared.event.What.{What}
use Rattle.acct_service.specs.declared.event.What.TheVariants.{Datagram, Desk}
use Rattle.acct_service.specs.Machine.{Answer, replied, dropped, mute, AnswersEvent}
use Rattle.acct_service.specs.Ages.{TakesNoneTooOld, IsTakenFrom, CarriedStayCarried}
use Rattle.acct_service.proofs.Tried.{OfReport, Tries, asked_tries, muted_tries}

module _ (oldest moment : ℕ) where
  -- the report is young enough
  abbrev Young : ReportFacts → Type 0
  Young report = moment ≤ report.when + oldest

  -- a report that waited no longer (Acct-Delay-Time, 41) is
  young : (stamping : Option Stamping) (client name : List ℕ) (attributes : Attributes)
      (asked : Entry) → IsEntryOf client (heard stamping name attributes) moment asked
      → (IsTooOld (Some oldest) attributes asked → ⊥) → OfReport Young asked
  young stamping client name attributes (entry.Report report) (status, kind, known, of_kind, is)
      recent =
      let delay = count_at 41 attributes in
      let when : report.when ≡ moment - delay =
      ap (λ r. r.when) is ∙ ap (λ d. moment - d) (delay_heard stamping name attributes) in
      elim (cases_order oldest delay) [
        | inl same ↦ omega (arith, when, same)
        | inr order ↦ elim order [
          | inl less ↦ absurd (recent less)
          | inr more ↦ omega (arith, when, more)
        ]
      ]
  young stamping client name attributes (entry.Restart restart) spelled recent = tt
  young stamping client name attributes (entry.TopUp topup) spelled recent = tt

  asked_young : (clients : ClientsFacts) (source bytes : List ℕ) (asked : Entry)
      (asks : RequestAsksFor clients source bytes moment asked)
      → (IsTooOld (Some oldest) asks.attributes asked → ⊥) → OfReport Young asked
  asked_young clients source bytes asked asks recent =
      young clients.stamping (teller clients.stamping asks.client.name asks.attributes)
      asks.client.name asks.attributes asked asks.asks.spelled recent

  dropped_young : (clients : ClientsFacts) (source bytes : List ℕ) (reason : Reason)
      (effect : Effect) → DropsWithin (Some oldest) clients source bytes moment reason effect
      → Tries Young effect
  dropped_young clients source bytes why.BalanceLimit effect says =
      subst (Tries Young) (sym says.3.1) tt
  dropped_young clients source bytes why.Unavailable effect says =
      elim says.2 [
        | inl old ↦ subst (Tries Young) (sym old.1) tt
        | inr recent ↦ subst (Tries Young) (sym recent.1)
            (asked_young clients source bytes says.0 says.1 recent.0)
      ]
  dropped_young clients source bytes reason effect says = subst (Tries Young) (sym says.1) tt

  answered_young : (config : Config) (what : What) (answer : Answer) (effect : Effect)
      → AnswersEvent (Some oldest) config moment what answer effect → Tries Young effect
  answered_young config (Datagram source port bytes) (replied octets) effect
      (asked, by, recent, is) = subst (Tries Young) (sym is)
      (young config.clients.stamping
      (teller config.clients.stamping by.client.name by.attributes) by.client.name by.attributes
      asked by.asks.spelled recent)
  answered_young config (Datagram source port bytes) (dropped reason) effect says =
      dropped_young config.clients source bytes reason effect says
  answered_young config (Datagram source port bytes) mute effect says = absurd says
  answered_young config (Desk bytes) (replied octets) effect (ask, asks, says) =
      asked_tries Young ask octets effect says
  answered_young config (Desk bytes) (dropped reason) effect says = absurd says
  answered_young config (Desk bytes) mute effect (ask, asks, says) =
      muted_tries Young ask effect says

  taken_young : (effect : Effect) (report : ReportFacts) → IsTakenFrom effect report
      → Tries Young effect → Young report
  taken_young effect report (inl is) tries = subst (Tries Young) is tries
  taken_young effect report (inr is) tries = subst (Tries Young) is tries

pub none_too_old : TakesNoneTooOld
none_too_old visit oldest report answered limit taken =
    taken_young oldest visit.event.moment visit.effect report taken
    (answered_young oldest visit.event.moment visit.site visit.event.what visit.answer visit.effect
    (subst (λ o. AnswersEvent o visit.site visit.event.moment visit.event.what visit.answer
    visit.effect) limit answered))

-- ---- sessions that were carried forward

-- each report's moment is at most the largest
largest_when : (report : ReportFacts) (all : List ReportFacts) → Contains all report
    → report.when ≤ largest (map (λ r. r.when) all)
largest_when report [] there = absurd (nowhere report there)
largest_when report (first ∷ others) there = elim (front_or_behind first report others there) [
  | inl same ↦ let whens : first.when ≡ report.when = ap (λ r. r.when) same in omega (arith, whens)
  | inr behind ↦ let least = largest_when report others behind in omega (arith, least)
]

-- the last moment of a row is the largest of its session's reports
last_is : (plan : Option Plan) (key : Key) (restarted : Bool) (all : List ReportFacts)
    (row : RowFacts) → row_of_reports plan key restarted all ≡ Some row
    → row.last ≡ largest (map (λ report. report.when) all)
last_is plan key restarted all row is =
    elim (first_of all) as (λ f. option_map (row_from plan key restarted all) f ≡ Some row
    → row.last ≡ largest (map (λ report. report.when) all)) [
      | None ↦ λ h. absurd (cc)
      | Some first ↦ λ h.
          let same : row_from plan key restarted all first ≡ row = cc in
          sym (ap (λ r. r.last) same)
    ] is

-- a row that the selection takes was last heard of before the limit
taken_before : (selection : SelectionFacts) (row : RowFacts) → stay_of selection row ≡ None
    → row.last < limit_of selection row.state
taken_before selection row taken =
    elim (is_line row.client) as (λ b. is_line row.client ≡ b
    → row.last < limit_of selection row.state) [
      | true ↦ λ line. absurd (cc)
      | false ↦ λ no_line.
          elim (list_any (bytes_eq row.client) selection.kept) as
          (λ b. list_any (bytes_eq row.client) selection.kept ≡ b
          → row.last < limit_of selection row.state) [
            | true ↦ λ kept. absurd (cc)
            | false ↦ λ other.
                elim (nat_lt row.last (limit_of selection row.state)) as
                (λ b. nat_lt row.last (limit_of selection row.state) ≡ b
                → row.last < limit_of selection row.state) [
                  | true ↦ λ before. grind (arith, nat_tests)
                  | false ↦ λ later. absurd (cc)
                ] refl
          ] refl
    ] refl

-- each limit of the selection lies as far back
limit_back : (selection : SelectionFacts) (oldest moment : ℕ) (state : SessionState)
    → selection.ended_before + oldest ≤ moment → selection.silent_before + oldest ≤ moment
    → limit_of selection state + oldest ≤ moment
limit_back selection oldest moment Live ended silent = silent
limit_back selection oldest moment Closed ended silent = ended
limit_back selection oldest moment Stopped ended silent = ended

pub carried_stay : CarriedStayCarried
carried_stay selection plans history batch accepted report moment visit chosen carried there no_later
    later answered taken =
    let key : Key = record { client = report.client; session = report.session } in
    let (row, is, goes, owned, classed) = chosen.taken key carried in
    let last = last_is (plan_of plans history (name_of key)) key (is_restarted history key)
    (reports history (name_of key)) row is in
    let least = largest_when accepted (reports history (name_of key)) there in
    let before = taken_before selection row goes in
    let back = limit_back selection later.oldest moment row.state later.ended later.silent in
    let young = none_too_old visit later.oldest report answered later.limited taken in
    let clock = later.clock in
    omega (arith, last, least, before, back, young, clock, no_later)
