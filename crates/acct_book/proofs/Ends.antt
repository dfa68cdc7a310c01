-- Which rows there are, which report was the first to say something, and how a session ends.
use Rattle.std.proofs.Common.{◌≡◌, ◌≢◌, ◌⊎◌, inl, inr, Bool, true, false, ◌&&◌, ◌||◌, cond, ℕ}
use Rattle.std.proofs.Common.{List, [], ◌∷◌, ◌++◌, refl, sym, ap, ◌∙◌, subst, true≢false}
use Rattle.std.specs.Prelude.{Option, Some, None, Contains, bytes_eq, is_some, option_map}
use Rattle.std.specs.Bool.{Decides}
use Rattle.std.specs.List.{filter}
use Rattle.std.specs.Option.{option_or, option_and_then, option_map_or}
use Rattle.std.proofs.lemmas.List.Elements.{Contains-append_right}
use Rattle.acct_model.specs.declared.plan.Plan.{Plan}
use Rattle.acct_model.specs.declared.report.ReportKind.{ReportKind}
use Rattle.acct_model.specs.declared.report.ReportKind.TheVariants.{Start, Stop, Interim}
use Rattle.acct_model.specs.declared.entry.Restart.{Restart}
use Rattle.acct_model.specs.declared.entry.Entry.{Entry}
use Rattle.acct_model.specs.declared.entry.Entry.TheVariants as entry
use Rattle.acct_model.specs.Report.{ReportFacts}
use Rattle.acct_model.specs.Plans.{plans_before}
use Rattle.acct_model.specs.History.{Member, Accepted, PlansAdded, History, session_of}
use Rattle.acct_model.specs.History.{same_session, all_reports, reports, first_of, plan_of}
use Rattle.acct_model.proofs.Lists.{here, nowhere, all_listed, from_filter, to_filter}
use Rattle.acct_model.proofs.Balances.{first_of-none}
use Rattle.acct_model.proofs.Same.{Decides-bytes_eq, Decides-same_session}
use Rattle.acct_model.proofs.Members.{sessions_listed}
use Rattle.acct_model.proofs.TopUps.{first_passing}
use Rattle.acct_book.specs.declared.key.Key.{Key}
use Rattle.acct_book.specs.declared.row.SessionState.{SessionState}
use Rattle.acct_book.specs.declared.row.SessionState.TheVariants.{Live, Closed, Stopped}
use Rattle.acct_book.specs.Row.{RowFacts}
use Rattle.acct_book.specs.Content.{same_key, key_of, closed_row, closed_by}
use Rattle.acct_book.specs.Rows.{name_of, is_stop, has_octets, first_stop, is_restarted, state_of}
use Rattle.acct_book.specs.Rows.{cause_of, calling_of, framed_of, row_from, row_of}
use Rattle.acct_book.specs.Next.{report_key, state_after, cause_after, raised_row}
use Rattle.acct_book.specs.Next.{next_row, charge_before}
use Rattle.acct_book.specs.Charge.{plan_of_row}
use Rattle.acct_book.specs.Laws.{RowsHaveTheirKeys, RowsAreOfSessions, IsFirstWith, IsFirstSaid}
use Rattle.acct_book.specs.Laws.{RowsAreCharged, IsStopped, IsRestarted, IsStateOf, IsCauseOf}
use Rattle.acct_book.specs.Laws.{RowsSayTheirEnds, StaysEnded, EndedStaysEnded}
use Rattle.acct_book.specs.Laws.{RowsKeepTheirPlans}
use Rattle.acct_book.proofs.Keys.{key_is}
use Rattle.acct_book.proofs.Rows.{row-plan, row_of-report, row_of-other, row_of-restart}
use Rattle.acct_book.proofs.Steps.{charge-row}

-- ---- which rows there are

abbrev all_of : History → Key → List ReportFacts
all_of history key = reports history (name_of key)

some_of : {A B : Type 0} (f : A → B) (o : Option A) (y : B) → option_map f o ≡ Some y
    → (x : A) × (o ≡ Some x) × (f x ≡ y)
some_of f None y is = cc
some_of f (Some x) y is = (x, refl, cc)

-- a row is made of all reports of its session and the first of them
pub row_made : (plans : List Plan) (history : History) (key : Key) (row : RowFacts)
    → row_of plans history key ≡ Some row
    → (first : ReportFacts) × (first_of (all_of history key) ≡ Some first)
    × (row_from (plan_of plans history (name_of key)) key (is_restarted history key)
    (all_of history key) first ≡ row)
row_made plans history key row is =
    some_of (row_from (plan_of plans history (name_of key)) key (is_restarted history key)
    (all_of history key))
    (first_of (all_of history key)) row is

pub rows_have_keys : RowsHaveTheirKeys
rows_have_keys plans history key row is = ap key_of (sym (row_made plans history key row is).2)

pub rows_are_charged : RowsAreCharged
rows_are_charged plans history key row is =
    let made = row_made plans history key row is in
    ap (charge_before plans) (sym is) ∙ charge-row plans history key made.0 made.1

pub rows_keep_plans : RowsKeepTheirPlans
rows_keep_plans plans history key row is =
    let made = row_made plans history key row is in
    row-plan plans history key made.0 made.1 row (ap (λ (r : RowFacts). r.plan) (sym made.2))

first_listed : {X : Type 0} (xs : List X) (x : X) → first_of xs ≡ Some x → Contains xs x
first_listed [] x is = cc
first_listed (y ∷ ys) x is = elim (first_of ys) as (λ o. first_of ys ≡ o
    → option_or o (Some y) ≡ Some x → Contains (y ∷ ys) x) [
      | None ↦ λ none h. let same : y ≡ x = cc in
          subst (λ z. Contains (y ∷ ys) z) same (here y ys)
      | Some z ↦ λ some h. Contains-append_right (y ∷ []) ys x (first_listed ys x (some ∙ h))
    ] refl is

to_first : {X : Type 0} (xs : List X) (x : X) → Contains xs x → (y : X) × (first_of xs ≡ Some y)
to_first [] x there = absurd (nowhere x there)
to_first (y ∷ ys) x there = elim (first_of ys) as (λ o.
    (z : _) × (option_or o (Some y) ≡ Some z)) [
      | None ↦ (y, refl)
      | Some z ↦ (z, refl)
    ]

pub rows_of_sessions : RowsAreOfSessions
rows_of_sessions plans history key =
    let name = name_of key in
    let all = all_of history key in
    let test = λ (report : ReportFacts). same_session name (session_of report) in (
      λ (row, is). let made = row_made plans history key row is in
          let kept = from_filter test (all_reports history) made.0
          (first_listed all made.0 made.1) in
          (sessions_listed.listed history name).1 (
            made.0,
            kept.0,
            sym ((Decides-same_session name (session_of made.0)).0 kept.1),
          ),
      λ listed. let said = (sessions_listed.listed history name).0 listed in
          let first = to_first all said.0 (to_filter test (all_reports history) said.0 said.1
          ((Decides-same_session name (session_of said.0)).1 (sym said.2))) in (
            row_from (plan_of plans history (name_of key)) key (is_restarted history key) all
                first.0,
            ap (option_map (row_from (plan_of plans history (name_of key)) key
                (is_restarted history key) all)) first.1,
          ),
    )

-- ---- the first report that keeps a property

module _ (test : ReportFacts → Bool) (Keeps : ReportFacts → Type 0)
    (decides : (report : ReportFacts) → Decides (test report) (Keeps report)) where
  fails : (report : ReportFacts) → test report ≡ false → Keeps report → ⊥
  fails report is keeps = true≢false (sym ((decides report).1 keeps) ∙ is)

  first_with : (all : List ReportFacts) (first : ReportFacts)
      → first_of (filter test all) ≡ Some first → IsFirstWith Keeps all first
  first_with all first is =
      let found = first_passing test all first is in record {
        later = found.later;
        earlier = found.earlier;
        stands = found.stands;
        keeps = (decides first).0 found.passes;
        none_before = all_listed (λ report. Keeps report → ⊥) found.earlier
            (λ report there. fails report (found.none_before report there));
      }

  first_there : (all : List ReportFacts) (first : ReportFacts)
      → first_of (filter test all) ≡ Some first → Contains all first × Keeps first
  first_there all first is =
      let kept = from_filter test all first (first_listed (filter test all) first is) in
      (kept.0, (decides first).0 kept.1)

  none_with : (all : List ReportFacts) → first_of (filter test all) ≡ None
      → (report : ReportFacts) → Contains all report → Keeps report → ⊥
  none_with all is report there keeps =
      nowhere report (subst (λ xs. Contains xs report) (first_of-none (filter test all) is)
      (to_filter test all report there ((decides report).1 keeps)))

-- ---- calling station and address

abbrev station : Option ReportFacts → List ℕ
station o = option_map_or (λ report. report.calling) o []

abbrev address : Option ReportFacts → Option (List ℕ)
address o = option_and_then (λ report. report.framed) o

has_some_octets : (xs : List ℕ) → Decides (has_octets xs) (xs ≢ [])
has_some_octets [] = (λ e. absurd (true≢false (sym e)), λ some. absurd (some refl))
has_some_octets (x ∷ xs) = (λ e is. cc, λ some. refl)

no_octets : (xs : List ℕ) → (xs ≢ [] → ⊥) → xs ≡ []
no_octets [] none = refl
no_octets (x ∷ xs) none = absurd (none (λ is. cc))

is_there : {X : Type 0} (o : Option X) → Decides (is_some o) (o ≢ None)
is_there None = (λ e. absurd (true≢false (sym e)), λ some. absurd (some refl))
is_there (Some x) = (λ e is. cc, λ some. refl)

not_there : {X : Type 0} (o : Option X) → (o ≢ None → ⊥) → o ≡ None
not_there None none = refl
not_there (Some x) none = absurd (none (λ is. cc))

pub calling_first : (all : List ReportFacts)
    → IsFirstSaid (λ report. report.calling) [] all (calling_of all)
calling_first all = elim (first_of (filter (λ report. has_octets report.calling) all)) as (λ o.
    first_of (filter (λ report. has_octets report.calling) all) ≡ o
    → IsFirstSaid (λ report. report.calling) [] all (station o)) [
      | None ↦ λ none. inr (
        all_listed (λ report. report.calling ≡ []) all (λ report there.
            no_octets report.calling (none_with (λ one. has_octets one.calling)
            (λ one. one.calling ≢ []) (λ one. has_some_octets one.calling) all none report there)),
        refl,
      )
      | Some first ↦ λ some. inl (
        first,
        first_with (λ one. has_octets one.calling) (λ one. one.calling ≢ [])
            (λ one. has_some_octets one.calling) all first some,
        refl,
      )
    ] refl

pub address_first : (all : List ReportFacts)
    → IsFirstSaid (λ report. report.framed) None all (framed_of all)
address_first all = elim (first_of (filter (λ report. is_some report.framed) all)) as (λ o.
    first_of (filter (λ report. is_some report.framed) all) ≡ o
    → IsFirstSaid (λ report. report.framed) None all (address o)) [
      | None ↦ λ none. inr (
        all_listed (λ report. report.framed ≡ None) all (λ report there.
            not_there report.framed (none_with (λ one. is_some one.framed)
            (λ one. one.framed ≢ None) (λ one. is_there one.framed) all none report there)),
        refl,
      )
      | Some first ↦ λ some. inl (
        first,
        first_with (λ one. is_some one.framed) (λ one. one.framed ≢ None)
            (λ one. is_there one.framed) all first some,
        refl,
      )
    ] refl

-- ---- a restart of the client

and_true : (a b : Bool) → (a && b) ≡ true → (a ≡ true) × (b ≡ true)
and_true true b e = (refl, e)
and_true false b e = absurd (true≢false (sym e))

or_true : (a b : Bool) → (a || b) ≡ true → (a ≡ true) ⊎ (b ≡ true)
or_true true b e = inl refl
or_true false b e = inr e

left_or : (a b : Bool) → a ≡ true → (a || b) ≡ true
left_or a b e = ap (λ c. c || b) e

right_or : (a b : Bool) → b ≡ true → (a || b) ≡ true
right_or true b e = refl
right_or false b e = e

both_true : (a b : Bool) → a ≡ true → b ≡ true → (a && b) ≡ true
both_true a b e f = rw (e, f) refl

some_listed : {X : Type 0} (xs : List X) → is_some (first_of xs) ≡ true → (x : X) × Contains xs x
some_listed [] e = absurd (true≢false (sym e))
some_listed (x ∷ xs) e = (x, here x xs)

listed_some : {X : Type 0} (xs : List X) (x : X) → Contains xs x → is_some (first_of xs) ≡ true
listed_some xs x there = ap is_some (to_first xs x there).1

one_later : (next : Member) (history : History) (key : Key) → IsRestarted history key
    → IsRestarted (next ∷ history) key
one_later next history key (later, restart, earlier, is, client, said) =
    (next ∷ later, restart, earlier, ap (λ h. next ∷ h) is, client, said)

restart_found : (history : History) (key : Key) → is_restarted history key ≡ true
    → IsRestarted history key
restart_found [] key e = absurd (true≢false (sym e))
restart_found (Accepted (entry.Report report) ∷ older) key e =
    one_later (Accepted (entry.Report report)) older key (restart_found older key e)
restart_found (Accepted (entry.Restart restart) ∷ older) key e =
    elim (or_true (bytes_eq restart.client key.client && is_some (first_of (all_of older key)))
    (is_restarted older key) e) [
      | inl now ↦ let both = and_true (bytes_eq restart.client key.client)
          (is_some (first_of (all_of older key))) now in (
            [],
            restart,
            older,
            refl,
            (Decides-bytes_eq restart.client key.client).0 both.0,
            some_listed (all_of older key) both.1,
          )
      | inr before ↦
          one_later (Accepted (entry.Restart restart)) older key (restart_found older key before)
    ]
restart_found (Accepted (entry.TopUp topup) ∷ older) key e =
    one_later (Accepted (entry.TopUp topup)) older key (restart_found older key e)
restart_found (PlansAdded plans ∷ older) key e =
    one_later (PlansAdded plans) older key (restart_found older key e)

restart_seen : (later : History) (restart : Restart) (earlier : History) (key : Key)
    → restart.client ≡ key.client
    → (report : ReportFacts) × Contains (all_of earlier key) report
    → is_restarted (later ++ Accepted (entry.Restart restart) ∷ earlier) key ≡ true
restart_seen [] restart earlier key client (report, there) =
    left_or _ (is_restarted earlier key) (both_true _ _
    ((Decides-bytes_eq restart.client key.client).1 client)
    (listed_some (all_of earlier key) report there))
restart_seen (Accepted (entry.Report other) ∷ later) restart earlier key client said =
    restart_seen later restart earlier key client said
restart_seen (Accepted (entry.Restart other) ∷ later) restart earlier key client said =
    right_or _ (is_restarted (later ++ Accepted (entry.Restart restart) ∷ earlier) key)
    (restart_seen later restart earlier key client said)
restart_seen (Accepted (entry.TopUp other) ∷ later) restart earlier key client said =
    restart_seen later restart earlier key client said
restart_seen (PlansAdded plans ∷ later) restart earlier key client said =
    restart_seen later restart earlier key client said

not_restarted : (history : History) (key : Key) → is_restarted history key ≡ false
    → IsRestarted history key → ⊥
not_restarted history key e (later, restart, earlier, is, client, said) =
    true≢false (sym (restart_seen later restart earlier key client said)
    ∙ sym (ap (λ h. is_restarted h key) is) ∙ e)

-- ---- state and cause

stops : (kind : ReportKind) → Decides (is_stop kind) (kind ≡ Stop)
stops Start = (λ e. absurd (true≢false (sym e)), λ e. cc)
stops Stop = (λ e. refl, λ e. refl)
stops Interim = (λ e. absurd (true≢false (sym e)), λ e. cc)

abbrev stop_test : ReportFacts → Bool
stop_test report = is_stop report.kind

abbrev Stops : ReportFacts → Type 0
Stops report = report.kind ≡ Stop

was_stopped : (history : History) (key : Key) (stop : ReportFacts)
    → first_stop (all_of history key) ≡ Some stop → IsStopped history key
was_stopped history key stop is =
    let found = first_there stop_test Stops (λ r. stops r.kind) (all_of history key) stop is in
    (stop, found.0, found.1)

not_stopped : (history : History) (key : Key) → first_stop (all_of history key) ≡ None
    → IsStopped history key → ⊥
not_stopped history key is (stop, there, kind) =
    none_with stop_test Stops (λ r. stops r.kind) (all_of history key) is stop there kind

state_says : (history : History) (key : Key) (o : Option ReportFacts) (b : Bool)
    → first_stop (all_of history key) ≡ o → is_restarted history key ≡ b
    → IsStateOf history key (state_of o b)
state_says history key (Some stop) b is r =
    let was = was_stopped history key stop is in record {
      stopped = (λ e. was, λ h. refl);
      closed = (λ e. cc, λ h. absurd (h.0 was));
      live = (λ e. cc, λ h. absurd (h.0 was));
    }
state_says history key None true is r =
    let none = not_stopped history key is in
    let again = restart_found history key r in record {
      stopped = (λ e. cc, λ h. absurd (none h));
      closed = (λ e. (none, again), λ h. refl);
      live = (λ e. cc, λ h. absurd (h.1 again));
    }
state_says history key None false is r =
    let none = not_stopped history key is in
    let never = not_restarted history key r in record {
      stopped = (λ e. cc, λ h. absurd (none h));
      closed = (λ e. cc, λ h. absurd (never h.1));
      live = (λ e. (none, never), λ h. refl);
    }

cause_says : (all : List ReportFacts) (o : Option ReportFacts) (b : Bool) → first_stop all ≡ o
    → IsCauseOf all (state_of o b) (cause_of o b)
cause_says all (Some stop) b is = record {
  stopped = λ e. (stop, first_with stop_test Stops (λ r. stops r.kind) all stop is, refl);
  closed = λ e. cc;
  live = λ e. cc;
}
cause_says all None true is = record {
  stopped = λ e. cc;
  closed = λ e. refl;
  live = λ e. cc;
}
cause_says all None false is = record {
  stopped = λ e. cc;
  closed = λ e. cc;
  live = λ e. refl;
}

pub rows_say_ends : RowsSayTheirEnds
rows_say_ends plans history key row is =
    let all = all_of history key in
    let made = row_made plans history key row is in
    subst (λ (r : RowFacts). IsStateOf history key r.state × IsCauseOf all r.state r.cause)
    made.2 (
      state_says history key (first_stop all) (is_restarted history key) refl refl,
      cause_says all (first_stop all) (is_restarted history key) refl,
    )

-- ---- an ended session never opens again

stays_itself : (row : RowFacts) → StaysEnded row row
stays_itself row = record {
  ended = λ e. e;
  stopped = λ e. (e, refl);
}

stays_on : (a b c : RowFacts) → StaysEnded a b → StaysEnded b c → StaysEnded a c
stays_on a b c ab bc = record {
  ended = λ e. bc.ended (ab.ended e);
  stopped = λ e. let first = ab.stopped e in let then_on = bc.stopped first.0 in
      (then_on.0, then_on.1 ∙ first.1);
}

state_stays : (kind : ReportKind) (state : SessionState) → state ≢ Live
    → state_after kind state ≢ Live
state_stays Start state ended = ended
state_stays Stop state ended = λ e. cc
state_stays Interim state ended = ended

stop_stays : (kind : ReportKind) → state_after kind Stopped ≡ Stopped
stop_stays Start = refl
stop_stays Stop = refl
stop_stays Interim = refl

cause_stays : (kind : ReportKind) (old new : ℕ) → cause_after kind Stopped old new ≡ old
cause_stays Start old new = refl
cause_stays Stop old new = refl
cause_stays Interim old new = refl

raised_stays : (plan : Option Plan) (row : RowFacts) (report : ReportFacts)
    → StaysEnded row (raised_row plan row report)
raised_stays plan row report = record {
  ended = state_stays report.kind row.state;
  stopped = λ e. (
    ap (state_after report.kind) e ∙ stop_stays report.kind,
    ap (λ s. cause_after report.kind s row.cause report.cause) e
        ∙ cause_stays report.kind row.cause report.cause,
  );
}

closed_stays_at : (row : RowFacts) (state : SessionState) → row.state ≡ state
    → StaysEnded row (closed_row row state)
closed_stays_at row Live is = record {
  ended = λ e. absurd (e is);
  stopped = λ e. cc;
}
closed_stays_at row Closed is = stays_itself row
closed_stays_at row Stopped is = stays_itself row

closed_stays : (client : List ℕ) (row : RowFacts) → StaysEnded row (closed_by client row)
closed_stays client row = elim (bytes_eq client row.client) as (λ b.
    StaysEnded row (cond b (closed_row row row.state) row)) [
      | true ↦ closed_stays_at row row.state refl
      | false ↦ stays_itself row
    ]

-- the row of a session after some entries more
abbrev Goes : List Plan → History → Key → RowFacts → Type 0
Goes plans history key row =
    (after : RowFacts) × (row_of plans history key ≡ Some after) × StaysEnded row after

report_goes : (plans : List Plan) (report : ReportFacts) (history : History) (key : Key)
    (row : RowFacts) (b : Bool)
    → same_key (report_key report) key ≡ b → row_of plans history key ≡ Some row
    → Goes plans (Accepted (entry.Report report) ∷ history) key row
report_goes plans report history key row true same is =
    let own : report_key report ≡ key = key_is (report_key report) key same in (
      raised_row (plan_of_row plans row) row report,
      ap (row_of plans (Accepted (entry.Report report) ∷ history)) (sym own)
          ∙ row_of-report plans report history
          ∙ ap (λ o. Some (next_row plans o report)) (ap (row_of plans history) own ∙ is),
      raised_stays (plan_of_row plans row) row report,
    )
report_goes plans report history key row false same is =
    (row, row_of-other plans report history key same ∙ is, stays_itself row)

one_goes : (plans : List Plan) (next : Entry) (history : History) (key : Key) (row : RowFacts)
    → row_of plans history key ≡ Some row → Goes plans (Accepted next ∷ history) key row
one_goes plans (entry.Report report) history key row is =
    report_goes plans report history key row (same_key (report_key report) key) refl is
one_goes plans (entry.Restart restart) history key row is = (
  closed_by restart.client row,
  row_of-restart plans restart history key ∙ ap (option_map (closed_by restart.client)) is,
  closed_stays restart.client row,
)
one_goes plans (entry.TopUp topup) history key row is = (row, is, stays_itself row)

pub ended_stays : EndedStaysEnded
ended_stays plans [] history key row is = (row, is, stays_itself row)
ended_stays plans (Accepted next ∷ later) history key row is =
    let before = ended_stays plans later history key row is in
    let now = one_goes plans next (later ++ history) key before.0 before.1 in
    (now.0, now.1, stays_on row before.0 now.0 before.2 now.2)
ended_stays plans (PlansAdded added ∷ later) history key row is =
    ended_stays (plans_before added plans) later history key row is
