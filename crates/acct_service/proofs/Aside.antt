-- The sessions that were set aside, and the two histories of a life.
use Rattle.std.proofs.Common.{◌≡◌, ◌⊎◌, inl, inr, true, false, List, [], ◌∷◌, ◌++◌, refl, sym}
use Rattle.std.proofs.Common.{◌∙◌, ap, subst, true≢false}
use Rattle.std.proofs.lemmas.List.{append_cancel_right}
use Rattle.std.proofs.lemmas.List.Elements.{Contains-append_left, Contains-append_right}
use Rattle.std.proofs.lemmas.List.Elements.{Contains-append_cases, filter_map-append}
use Rattle.std.proofs.lemmas.List.Elements.{filter-append}
use Rattle.std.specs.Prelude.{Bool, Contains}
use Rattle.std.specs.List.{flat_map, filter}
use Rattle.acct_model.specs.declared.plan.Plan.{Plan}
use Rattle.acct_model.specs.declared.entry.Entry.{Entry}
use Rattle.acct_model.specs.declared.entry.Entry.TheVariants as entry
use Rattle.acct_model.specs.Report.{ReportFacts}
use Rattle.acct_model.specs.History.{History, SessionName, session_of, same_session}
use Rattle.acct_model.specs.History.{report_in, all_reports, reports}
use Rattle.acct_model.specs.Forward.{without, without_all, Batch, sessions_in, GoOnAlike}
use Rattle.acct_model.specs.Course.{is_among}
use Rattle.acct_model.proofs.Balances.{reports-other}
use Rattle.acct_model.proofs.GoOn.{goes_on}
use Rattle.acct_model.proofs.Lists.{here, deeper, nowhere, front_or_behind, some_same, found_same}
use Rattle.acct_model.proofs.Same.{Decides-same_session}
use Rattle.acct_model.proofs.SamePlans.{same-balance, same-kept}
use Rattle.acct_model.proofs.Without.{reports-kept}
use Rattle.acct_book_forward.specs.Carrying.{SelectionFacts, is_line, CarriesChosen}
use Rattle.acct_service.specs.Life.{Span, carried, Past, made_with, set_aside, LivesOn, Life}
use Rattle.acct_service.specs.Life.{PriceAlike}
use Rattle.acct_service.proofs.AlikePlans.{same_plans}
use Rattle.acct_service.specs.Life.{NoneIsLate, LifeInTime, carried_in, HasCarriedNone, CarryNone}
use Rattle.acct_service.specs.Settling.{history_of}
use Rattle.acct_service.proofs.Spans.{Accepts, AddsPlans, CarriedOver, moved, grown}
use Rattle.acct_service.proofs.Spans.{chain_invariant}

-- ---- which sessions are set aside

batches_aside : (selection : SelectionFacts) (plans : List Plan) (old new : History)
    (batches : List Batch) → CarriesChosen selection plans old batches new
    → (name : SessionName) → Contains (flat_map set_aside batches) name
    → Contains (flat_map sessions_in batches) name ⊎ (is_line name.client ≡ true)
batches_aside selection plans old new [] chosen name at = absurd (nowhere name at)
batches_aside selection plans old new (batch ∷ batches) (mid, one, carries, rest) name at =
    let names = sessions_in batch in
    let more = flat_map sessions_in batches in
    elim (Contains-append_cases (set_aside batch) (flat_map set_aside batches) name at) [
      | inl first ↦ elim (front_or_behind (session_of batch.report) name names first) [
        | inl is ↦ inr (subst (λ (n : SessionName). is_line n.client ≡ true) is one.line)
        | inr behind ↦ inl (Contains-append_left names more name behind)
      ]
      | inr later ↦ elim (batches_aside selection plans mid new batches rest name later) [
        | inl there ↦ inl (Contains-append_right names more name there)
        | inr line ↦ inr line
      ]
    ]

span_aside : (old new : Past) (span : Span) → LivesOn old span new → (name : SessionName)
    → Contains new.aside name
    → Contains old.aside name
    ⊎ (Contains (carried_in span) name ⊎ (is_line name.client ≡ true))
span_aside old new span lives name at =
    elim (moved old new span lives) [
      | inl g ↦ inl (subst (λ ns. Contains ns name) g.aside at)
      | inr c ↦ elim (Contains-append_cases (flat_map set_aside c.batches) old.aside name
          (subst (λ ns. Contains ns name) c.aside at)) [
            | inl there ↦ inr (subst (λ x. Contains (carried_in x) name
                ⊎ (is_line name.client ≡ true)) (sym c.is)
                (batches_aside c.selection c.those old.history new.history c.batches c.chosen
                name there))
            | inr older ↦ inl older
          ]
    ]

life_aside : (old last : Past) (spans : List Span) → Life old spans last → (name : SessionName)
    → Contains last.aside name
    → Contains old.aside name
    ⊎ (Contains (flat_map carried_in spans) name ⊎ (is_line name.client ≡ true))
life_aside old last [] is name at =
    inl (subst (λ (past : Past). Contains past.aside name) is at)
life_aside old last (span ∷ spans) (mid, first, rest) name at =
    let one = carried_in span in
    let more = flat_map carried_in spans in
    elim (life_aside mid last spans rest name at) [
      | inl before ↦ elim (span_aside old mid span first name before) [
        | inl older ↦ inl older
        | inr now ↦ elim now [
          | inl there ↦ inr (inl (Contains-append_left one more name there))
          | inr line ↦ inr (inr line)
        ]
      ]
      | inr later ↦ elim later [
        | inl there ↦ inr (inl (Contains-append_right one more name there))
        | inr line ↦ inr (inr line)
      ]
    ]

pub only_carried : (plans : List Plan) (last : Past) (spans : List Span)
    → Life (made_with plans) spans last → (name : SessionName) → Contains last.aside name
    → Contains (flat_map carried_in spans) name ⊎ (is_line name.client ≡ true)
only_carried plans last spans life name at =
    elim (life_aside (made_with plans) last spans life name at) [
      | inl none ↦ absurd (nowhere name none)
      | inr there ↦ there
    ]

-- ---- if nothing is carried forward

pub stays_plain : (old last : Past) (spans : List Span) → CarryNone spans → HasCarriedNone old
    → Life old spans last → HasCarriedNone last × LifeInTime old spans last
stays_plain old last [] none plain is = (subst HasCarriedNone (sym is) plain, is)
stays_plain old last (span ∷ spans) none plain (mid, first, rest) =
    elim (moved old mid span first) [
      | inl g ↦
          let now : HasCarriedNone mid =
          (g.was ∙ ap (λ h. g.newer ++ h) plain.0 ∙ sym g.is, g.aside ∙ plain.1) in
          let later = stays_plain mid last spans
          (λ plans selection batches at.
          none plans selection batches (deeper span (carried plans selection batches) spans at))
          now rest in
          let timely : NoneIsLate old mid = (
            g.newer,
            g.was,
            λ report at late. nowhere (session_of report)
                (subst (λ ns. Contains ns (session_of report)) plain.1 late),
          ) in (later.0, (mid, (first, timely), later.1))
      | inr c ↦ absurd (none c.those c.selection c.batches
          (subst (λ x. Contains (span ∷ spans) x) c.is (here span spans)))
    ]

-- ---- sessions that were not set aside

-- each session that was not set aside has the same reports in both histories
abbrev pub HaveSameReports : Past → Type 0
HaveSameReports past = (name : SessionName) → (Contains past.aside name → ⊥)
    → reports past.whole name ≡ reports past.history name

more_reports : (newer old new : History) (name : SessionName) → new ≡ newer ++ old
    → reports new name ≡ reports newer name ++ reports old name
more_reports newer old new name is =
    let of = λ (r : ReportFacts). same_session name (session_of r) in
    ap (λ h. reports h name) is ∙ ap (filter of) (filter_map-append report_in newer old)
    ∙ filter-append of (all_reports newer) (all_reports old)

reports_left : (names : List SessionName) (history : History) (other : SessionName)
    → (Contains names other → ⊥)
    → reports (without_all names history) other ≡ reports history other
reports_left [] history other apart = refl
reports_left (name ∷ names) history other apart =
    reports_left names (without name history) other
    (λ there. apart (deeper name other names there))
    ∙ reports-kept history name other
    (λ is. apart (subst (λ n. Contains (name ∷ names) n) (sym is) (here name names)))

reports_carried : (selection : SelectionFacts) (plans : List Plan) (old new : History)
    (batches : List Batch) → CarriesChosen selection plans old batches new
    → (name : SessionName) → (Contains (flat_map set_aside batches) name → ⊥)
    → reports new name ≡ reports old name
reports_carried selection plans old new [] is name apart = ap (λ h. reports h name) is
reports_carried selection plans old new (batch ∷ batches) (mid, one, (carries, is), rest) name
    apart =
    let names = sessions_in batch in
    let line = session_of batch.report in
    let more = flat_map set_aside batches in
    let first : Contains (set_aside batch) name → ⊥ =
    λ at. apart (Contains-append_left (set_aside batch) more name at) in
    reports_carried selection plans mid new batches rest name
    (λ at. apart (Contains-append_right (set_aside batch) more name at))
    ∙ ap (λ h. reports h name) is
    ∙ reports-other (without_all names old) batch.report name
    (λ same. first (subst (λ n. Contains (set_aside batch) n) (sym same) (here line names)))
    ∙ reports_left names old name (λ at. first (deeper line name names at))

pub reports_same : (old new : Past) (span : Span) → LivesOn old span new → HaveSameReports old
    → HaveSameReports new
reports_same old new span lives same name apart =
    elim (moved old new span lives) [
      | inl g ↦ more_reports g.newer old.whole new.whole name g.was
          ∙ ap (λ rs. reports g.newer name ++ rs)
          (same name (λ at. apart (subst (λ ns. Contains ns name) (sym g.aside) at)))
          ∙ sym (more_reports g.newer old.history new.history name g.is)
      | inr c ↦
          let aside = flat_map set_aside c.batches in
          let all : Contains (aside ++ old.aside) name → ⊥ =
          λ at. apart (subst (λ ns. Contains ns name) (sym c.aside) at) in
          ap (λ h. reports h name) c.whole
          ∙ same name (λ at. all (Contains-append_right aside old.aside name at))
          ∙ sym (reports_carried c.selection c.those old.history new.history c.batches c.chosen
          name (λ at. all (Contains-append_left aside old.aside name at)))
    ]

-- ---- balances

-- both histories continue alike except for what was set aside
abbrev pub GoesAlike : Past → Type 0
GoesAlike past = GoOnAlike past.plans (is_among past.aside) past.whole past.history

among : (names : List SessionName) (name : SessionName) → Contains names name
    → is_among names name ≡ true
among names name there =
    some_same same_session name name names there ((Decides-same_session name name).1 refl)

not_among : (names : List SessionName) (name : SessionName) → (Contains names name → ⊥)
    → is_among names name ≡ false
not_among names name none =
    elim (is_among names name) as (λ b. is_among names name ≡ b → b ≡ false) [
      | true ↦ λ is.
          let found = found_same (same_session name) names is in
          absurd (none (subst (λ n. Contains names n)
          (sym ((Decides-same_session name found.0).0 found.2)) found.1))
      | false ↦ λ is. refl
    ] refl

none_among : (names : List SessionName) (name : SessionName) → is_among names name ≡ false
    → Contains names name → ⊥
none_among names name not there = true≢false (sym (among names name there) ∙ not)

at_past : (past : Past) (plans : List Plan) (aside : List SessionName) (whole kept : History)
    → past.plans ≡ plans → past.aside ≡ aside → past.whole ≡ whole → past.history ≡ kept
    → GoOnAlike plans (is_among aside) whole kept → GoesAlike past
at_past past plans aside whole kept plans_is aside_is whole_is kept_is alike =
    subst (λ ps. GoOnAlike ps (is_among past.aside) past.whole past.history) (sym plans_is)
    (subst (λ ns. GoOnAlike plans (is_among ns) past.whole past.history) (sym aside_is)
    (subst (λ h. GoOnAlike plans (is_among aside) h past.history) (sym whole_is)
    (subst (λ h. GoOnAlike plans (is_among aside) whole h) (sym kept_is) alike)))

entries_alike : (plans : List Plan) (is_aside : SessionName → Bool) (whole kept : History)
    (entries : List Entry)
    → ((report : ReportFacts) → Contains (all_reports (history_of entries)) report
    → is_aside (session_of report) ≡ false)
    → GoOnAlike plans is_aside whole kept
    → GoOnAlike plans is_aside (history_of entries ++ whole) (history_of entries ++ kept)
entries_alike plans is_aside whole kept [] none alike = alike
entries_alike plans is_aside whole kept (entry.Report r ∷ es) none alike =
    goes_on.accepted plans is_aside (history_of es ++ whole) (history_of es ++ kept)
    (entry.Report r)
    (entries_alike plans is_aside whole kept es
    (λ x at. none x (deeper r x (all_reports (history_of es)) at)) alike)
    (none r (here r (all_reports (history_of es))))
entries_alike plans is_aside whole kept (entry.Restart r ∷ es) none alike =
    goes_on.accepted plans is_aside (history_of es ++ whole) (history_of es ++ kept)
    (entry.Restart r) (entries_alike plans is_aside whole kept es none alike) refl
entries_alike plans is_aside whole kept (entry.TopUp t ∷ es) none alike =
    goes_on.accepted plans is_aside (history_of es ++ whole) (history_of es ++ kept)
    (entry.TopUp t) (entries_alike plans is_aside whole kept es none alike) refl

accepts_alike : (old new : Past) → NoneIsLate old new → Accepts old new → GoesAlike old
    → GoesAlike new
accepts_alike old new (newer, was, none) a alike =
    let same = append_cancel_right (history_of a.entries) newer old.whole (sym a.was ∙ was) in
    at_past new old.plans old.aside (history_of a.entries ++ old.whole)
    (history_of a.entries ++ old.history) a.plans a.aside a.was a.is
    (entries_alike old.plans (is_among old.aside) old.whole old.history a.entries
    (λ report at. not_among old.aside (session_of report)
    (none report (subst (λ h. Contains (all_reports h) report) same at))) alike)

adds_alike : (old new : Past) → AddsPlans old new → GoesAlike old → GoesAlike new
adds_alike old new a alike =
    at_past new a.more old.aside _ _ a.plans a.aside a.was a.is
    (goes_on.added old.plans a.more (is_among old.aside) old.whole old.history
    a.may.old_are_good a.may.new_are_good a.may.extends alike)

batches_alike : (selection : SelectionFacts) (plans : List Plan) (is_aside : SessionName → Bool)
    (whole kept after : History) (batches : List Batch)
    → CarriesChosen selection plans kept batches after
    → ((name : SessionName) → Contains (flat_map set_aside batches) name → is_aside name ≡ true)
    → GoOnAlike plans is_aside whole kept → GoOnAlike plans is_aside whole after
batches_alike selection plans is_aside whole kept after [] is aside alike =
    subst (GoOnAlike plans is_aside whole) (sym is) alike
batches_alike selection plans is_aside whole kept after (batch ∷ batches)
    (mid, one, (carries, is), rest) aside alike =
    let names = sessions_in batch in
    let line = session_of batch.report in
    let more = flat_map set_aside batches in
    let first : (name : SessionName) → Contains (set_aside batch) name → is_aside name ≡ true =
    λ name at. aside name (Contains-append_left (set_aside batch) more name at) in
    batches_alike selection plans is_aside whole mid after batches rest
    (λ name at. aside name (Contains-append_right (set_aside batch) more name at))
    (subst (GoOnAlike plans is_aside whole) (sym is)
    (goes_on.forward plans is_aside whole kept batch.name batch.names batch.report alike carries
    (λ gone at. first gone (deeper line gone names at)) (first line (here line names))))

-- under plans that price alike
alike_under : (these those : List Plan) (is_aside : SessionName → Bool) (whole kept : History)
    → PriceAlike these those → GoOnAlike these is_aside whole kept
    → GoOnAlike those is_aside whole kept
alike_under these those is_aside whole kept alike h =
    let same = same_plans these those alike in
    record {
      balances = λ account. sym (same-balance these those whole account same)
          ∙ h.balances account ∙ same-balance these those kept account same;
      reports = h.reports;
      planned = λ name other. sym (same-kept these those whole name same).0
          ∙ h.planned name other ∙ (same-kept these those kept name same).0;
      topups = h.topups;
    }

carries_alike : (old new : Past) (span : Span) → CarriedOver old span new → GoesAlike old
    → GoesAlike new
carries_alike old new span c alike =
    let more = flat_map set_aside c.batches in
    let aside = more ++ old.aside in
    let before = goes_on.more old.plans (is_among old.aside) (is_among aside) old.whole old.history
    (λ name none. not_among old.aside name
    (λ at. none_among aside name none (Contains-append_right more old.aside name at))) alike in
    at_past new old.plans aside old.whole new.history c.plans c.aside c.whole refl
    (alike_under c.those old.plans (is_among aside) old.whole new.history c.alike
    (batches_alike c.selection c.those (is_among aside) old.whole old.history new.history
    c.batches c.chosen
    (λ name at. among aside name (Contains-append_left more old.aside name at))
    (alike_under old.plans c.those (is_among aside) old.whole old.history
    (λ class. sym (c.alike class)) before)))

span_alike : (old new : Past) (span : Span) → LivesOn old span new × NoneIsLate old new
    → GoesAlike old → GoesAlike new
span_alike old new span (lives, timely) alike =
    elim (moved old new span lives) [
      | inl g ↦ elim (grown old new span g) [
        | inl a ↦ accepts_alike old new timely a alike
        | inr a ↦ adds_alike old new a alike
      ]
      | inr c ↦ carries_alike old new span c alike
    ]

pub life_alike : (plans : List Plan) (last : Past) (spans : List Span)
    → LifeInTime (made_with plans) spans last → GoesAlike last
life_alike plans last spans life =
    chain_invariant (λ old span new. LivesOn old span new × NoneIsLate old new) GoesAlike
    span_alike (made_with plans) last spans life (goes_on.begins plans (is_among []) [])
