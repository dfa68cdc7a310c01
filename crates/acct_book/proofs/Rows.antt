-- The row of a session after one more entry.
use Rattle.std.proofs.Common.{◌≡◌, ◌≢◌, ℕ, ◌+◌, Bool, true, false, ◌&&◌, ◌||◌, cond, List, []}
use Rattle.std.proofs.Common.{◌∷◌, map, max, refl, sym, ap, ◌∙◌, true≢false, arith}
use Rattle.std.specs.Prelude.{Option, Some, None, bytes_eq, is_some, option_map}
use Rattle.std.specs.List.{filter, find}
use Rattle.std.specs.Option.{option_or, option_and_then, option_map_or}
use Rattle.std.proofs.lemmas.Bool.Decides.{nat_tests}
use Rattle.std.proofs.lemmas.Slice.Eq.{bytes_eq-Decides}
use Rattle.acct_model.specs.declared.report.ReportKind.{ReportKind}
use Rattle.acct_model.specs.declared.report.ReportKind.TheVariants.{Start, Stop, Interim}
use Rattle.acct_model.specs.declared.entry.Restart.{Restart}
use Rattle.acct_model.specs.declared.entry.Entry.TheVariants as entry
use Rattle.acct_model.specs.declared.plan.Plan.{Plan}
use Rattle.acct_model.specs.declared.plan.Count.{Count}
use Rattle.acct_model.specs.declared.plan.Count.TheVariants.{Both, Input, Output}
use Rattle.acct_model.specs.Report.{ReportFacts}
use Rattle.acct_model.specs.Plans.{counted_by, counted_under, has_class, default_class, plan_for}
use Rattle.acct_model.specs.History.{Accepted, PlansAdded, History, Opening, opening_of}
use Rattle.acct_model.specs.History.{class_opened, session_of, same_session, reports, first_of}
use Rattle.acct_model.specs.History.{largest, plan_of, greatest_counted}
use Rattle.acct_model.proofs.Lists.{find-some}
use Rattle.acct_model.proofs.Balances.{reports-own, reports-other, first_of-more, plan-later}
use Rattle.acct_model.proofs.Balances.{plan-first, plan-other, opening-first}
use Rattle.acct_model.proofs.Kept.{plan-kept}
use Rattle.acct_book.specs.Charge.{class_of_plan, plan_of_row}
use Rattle.acct_book.specs.declared.key.Key.{Key}
use Rattle.acct_book.specs.declared.row.SessionState.{SessionState}
use Rattle.acct_book.specs.declared.row.SessionState.TheVariants.{Stopped}
use Rattle.acct_book.specs.Row.{RowFacts}
use Rattle.acct_book.specs.Content.{same_key, closed_by, closed_row}
use Rattle.acct_book.specs.Rows.{name_of, smallest, Rank, is_above, exceeds, higher}
use Rattle.acct_book.specs.Rows.{greatest, first_that, is_stop}
use Rattle.acct_book.specs.Rows.{has_octets, first_stop, calling_of, framed_of, is_restarted}
use Rattle.acct_book.specs.Rows.{state_of, cause_of, row_from, row_of_reports, row_of}
use Rattle.acct_book.specs.Next.{report_key, state_after, cause_after, or_octets, first_row}
use Rattle.acct_book.specs.Next.{raised_row, next_row_by, plan_found, next_row}
use Rattle.acct_book.proofs.Keys.{Decides-same_key}

-- ---- counters

abbrev rank : ℕ → ℕ → ℕ → Rank
rank n t i = record { counted = n; total = t; input = i }

above_most : (n t i m u j : ℕ) → is_above (rank n t i) (rank m u j) ≡ true → n ≡ max n m
above_most n t i m u j e = grind (arith, nat_tests)

below_most : (n t i m u j : ℕ) → is_above (rank n t i) (rank m u j) ≡ false → m ≡ max n m
below_most n t i m u j e = grind (arith, nat_tests)

higher-counted : (plan : Option Plan) (a b : ℕ × ℕ) (n : ℕ) → counted_under plan b.0 b.1 ≡ n
    → counted_under plan (higher plan a b).0 (higher plan a b).1
    ≡ max (counted_under plan a.0 a.1) n
higher-counted plan a b n h =
    let k = counted_under plan a.0 a.1 in
    let m = counted_under plan b.0 b.1 in
    elim (exceeds plan a b) as (λ x. exceeds plan a b ≡ x
    → counted_under plan (cond x a b).0 (cond x a b).1 ≡ max k n) [
      | true ↦ λ e. above_most k (a.0 + a.1) a.0 m (b.0 + b.1) b.0 e ∙ ap (max k) h
      | false ↦ λ e. below_most k (a.0 + a.1) a.0 m (b.0 + b.1) b.0 e ∙ ap (max k) h
    ] refl

none_by : (count : Count) → counted_by count 0 0 ≡ 0
none_by Both = refl
none_by Input = refl
none_by Output = refl

counted-none : (plan : Option Plan) → counted_under plan 0 0 ≡ 0
counted-none None = refl
counted-none (Some plan) = none_by plan.count

-- of the greatest counters the greatest number is counted
pub greatest-counted : (plan : Option Plan) (rs : List ReportFacts)
    → counted_under plan (greatest plan rs).0 (greatest plan rs).1 ≡ greatest_counted plan rs
greatest-counted plan [] = counted-none plan
greatest-counted plan (r ∷ rs) = higher-counted plan (r.input, r.output) (greatest plan rs)
    (greatest_counted plan rs) (greatest-counted plan rs)

none_below : (n t i m : ℕ) → m ≡ 0 → is_above (rank n t i) (rank m 0 0) ≡ false → t ≡ 0
none_below n t i m z e = grind (arith, nat_tests)

pub higher-none0 : (plan : Option Plan) (i o : ℕ) → (higher plan (i, o) (0, 0)).0 ≡ i
higher-none0 plan i o =
    elim (exceeds plan (i, o) (0, 0)) as (λ x. exceeds plan (i, o) (0, 0) ≡ x
    → (cond {A = ℕ × ℕ} x (i, o) (0, 0)).0 ≡ i) [
      | true ↦ λ e. refl
      | false ↦ λ e.
          let none : i + o ≡ 0 = none_below (counted_under plan i o) (i + o) i
          (counted_under plan 0 0) (counted-none plan) e in
          let is : 0 ≡ i = omega (arith, none) in is
    ] refl

pub higher-none1 : (plan : Option Plan) (i o : ℕ) → (higher plan (i, o) (0, 0)).1 ≡ o
higher-none1 plan i o =
    elim (exceeds plan (i, o) (0, 0)) as (λ x. exceeds plan (i, o) (0, 0) ≡ x
    → (cond {A = ℕ × ℕ} x (i, o) (0, 0)).1 ≡ o) [
      | true ↦ λ e. refl
      | false ↦ λ e.
          let none : i + o ≡ 0 = none_below (counted_under plan i o) (i + o) i
          (counted_under plan 0 0) (counted-none plan) e in
          let is : 0 ≡ o = omega (arith, none) in is
    ] refl

-- ---- the first report that passes a test

some_is : {A : Type 0} (x y : A) → Some x ≡ Some y → x ≡ y
some_is x y e = cc

or_some : {A : Type 0} (o : Option A) (x : A) → (y : A) × (option_or o (Some x) ≡ Some y)
or_some None x = (x, refl)
or_some (Some y) x = (y, refl)

-- a list that isn't empty has a first
pub first_is : (r : ReportFacts) (rs : List ReportFacts)
    → (x : ReportFacts) × (first_of (r ∷ rs) ≡ Some x)
first_is r rs = or_some (first_of rs) r

passes_or : (test : ReportFacts → Bool) (r x : ReportFacts) (o : Option ReportFacts) → test r ≡ true
    → option_or o (Some r) ≡ Some x → (o ≡ Some x → test x ≡ true) → test x ≡ true
passes_or test r x None e is rest = ap test (sym (some_is r x is)) ∙ e
passes_or test r x (Some y) e is rest = rest is

passes_at : (test : ReportFacts → Bool) (r x : ReportFacts) (ks : List ReportFacts) (b : Bool)
    → test r ≡ b → first_of (cond b (r ∷ ks) ks) ≡ Some x → (first_of ks ≡ Some x → test x ≡ true)
    → test x ≡ true
passes_at test r x ks true e is rest = passes_or test r x (first_of ks) e is rest
passes_at test r x ks false e is rest = rest is

-- it passes it
first_passes : (test : ReportFacts → Bool) (rs : List ReportFacts) (x : ReportFacts)
    → first_that test rs ≡ Some x → test x ≡ true
first_passes test [] x is = absurd (cc)
first_passes test (r ∷ rs) x is = passes_at test r x (filter test rs) (test r) refl is
    (first_passes test rs x)

-- ---- one more report, field by field

state_stop : (r : ReportFacts) (o : Option ReportFacts) (b : Bool)
    → state_of (option_or o (Some r)) b ≡ Stopped
state_stop r None b = refl
state_stop r (Some x) b = refl

state_at : (r : ReportFacts) (k : ReportKind) (ks : List ReportFacts) (b : Bool)
    → state_of (first_of (cond (is_stop k) (r ∷ ks) ks)) b ≡ state_after k
    (state_of (first_of ks) b)
state_at r Start ks b = refl
state_at r Stop ks b = state_stop r (first_of ks) b
state_at r Interim ks b = refl

cause_stop : (r : ReportFacts) (o : Option ReportFacts) (b : Bool)
    → cause_of (option_or o (Some r)) b ≡ cause_after Stop (state_of o b) (cause_of o b) r.cause
cause_stop r None true = refl
cause_stop r None false = refl
cause_stop r (Some x) b = refl

cause_at : (r : ReportFacts) (k : ReportKind) (ks : List ReportFacts) (b : Bool)
    → cause_of (first_of (cond (is_stop k) (r ∷ ks) ks)) b ≡ cause_after k
    (state_of (first_of ks) b) (cause_of (first_of ks) b) r.cause
cause_at r Start ks b = refl
cause_at r Stop ks b = cause_stop r (first_of ks) b
cause_at r Interim ks b = refl

octets_kept : (old new : List ℕ) → has_octets old ≡ true → or_octets old new ≡ old
octets_kept [] new e = absurd (true≢false (sym e))
octets_kept (x ∷ xs) new e = refl

no_octets : (xs : List ℕ) → has_octets xs ≡ false → xs ≡ []
no_octets [] e = refl
no_octets (x ∷ xs) e = absurd (true≢false e)

abbrev station : Option ReportFacts → List ℕ
station o = option_map_or (λ r. r.calling) o []

calling_or : (r : ReportFacts) (o : Option ReportFacts) → ((x : ReportFacts) → o ≡ Some x
    → has_octets x.calling ≡ true) → station (option_or o (Some r)) ≡ or_octets
    (station o) r.calling
calling_or r None h = refl
calling_or r (Some x) h = sym (octets_kept x.calling r.calling (h x refl))

calling_none : (r : ReportFacts) (o : Option ReportFacts) → has_octets r.calling ≡ false
    → ((x : ReportFacts) → o ≡ Some x → has_octets x.calling ≡ true)
    → station o ≡ or_octets (station o) r.calling
calling_none r None e h = sym (no_octets r.calling e)
calling_none r (Some x) e h = sym (octets_kept x.calling r.calling (h x refl))

calling_at : (r : ReportFacts) (ks : List ReportFacts) (b : Bool) → has_octets r.calling ≡ b
    → ((x : ReportFacts) → first_of ks ≡ Some x → has_octets x.calling ≡ true)
    → station (first_of (cond b (r ∷ ks) ks)) ≡ or_octets (station (first_of ks)) r.calling
calling_at r ks true e h = calling_or r (first_of ks) h
calling_at r ks false e h = calling_none r (first_of ks) e h

calling_more : (r : ReportFacts) (rs : List ReportFacts)
    → calling_of (r ∷ rs) ≡ or_octets (calling_of rs) r.calling
calling_more r rs = calling_at r (filter (λ x. has_octets x.calling) rs) (has_octets r.calling) refl
    (first_passes (λ x. has_octets x.calling) rs)

abbrev address : Option ReportFacts → Option (List ℕ)
address o = option_and_then (λ r. r.framed) o

address_kept : (f g : Option (List ℕ)) → is_some f ≡ true → option_or f g ≡ f
address_kept None g e = absurd (true≢false (sym e))
address_kept (Some x) g e = refl

no_address : (f : Option (List ℕ)) → is_some f ≡ false → f ≡ None
no_address None e = refl
no_address (Some x) e = absurd (true≢false e)

framed_or : (r : ReportFacts) (o : Option ReportFacts) → ((x : ReportFacts) → o ≡ Some x
    → is_some x.framed ≡ true) → address (option_or o (Some r)) ≡ option_or (address o) r.framed
framed_or r None h = refl
framed_or r (Some x) h = sym (address_kept x.framed r.framed (h x refl))

framed_none : (r : ReportFacts) (o : Option ReportFacts) → is_some r.framed ≡ false
    → ((x : ReportFacts) → o ≡ Some x → is_some x.framed ≡ true)
    → address o ≡ option_or (address o) r.framed
framed_none r None e h = sym (no_address r.framed e)
framed_none r (Some x) e h = sym (address_kept x.framed r.framed (h x refl))

framed_at : (r : ReportFacts) (ks : List ReportFacts) (b : Bool) → is_some r.framed ≡ b
    → ((x : ReportFacts) → first_of ks ≡ Some x → is_some x.framed ≡ true)
    → address (first_of (cond b (r ∷ ks) ks)) ≡ option_or (address (first_of ks)) r.framed
framed_at r ks true e h = framed_or r (first_of ks) h
framed_at r ks false e h = framed_none r (first_of ks) e h

framed_more : (r : ReportFacts) (rs : List ReportFacts) → framed_of (r ∷ rs) ≡ option_or
    (framed_of rs) r.framed
framed_more r rs = framed_at r (filter (λ x. is_some x.framed) rs) (is_some r.framed) refl
    (first_passes (λ x. is_some x.framed) rs)

-- ---- the row

max_none : (n : ℕ) → max n 0 ≡ n
max_none n = omega arith

-- a session's first report
first_from : (plan : Option Plan) (r : ReportFacts) (b : Bool) → b ≡ false
    → row_from plan (report_key r) b (r ∷ []) r ≡ first_row plan r
first_from plan r b off = λ i. record {
  client = r.client;
  session = r.session;
  account = r.user;
  class = r.class;
  plan = class_of_plan plan;
  input = higher-none0 plan r.input r.output i;
  output = higher-none1 plan r.input r.output i;
  seconds = max_none r.seconds i;
  first = r.when;
  last = max_none r.when i;
  state = (ap (state_of (first_stop (r ∷ []))) off ∙ state_at r r.kind [] false) i;
  cause = (ap (cause_of (first_stop (r ∷ []))) off ∙ cause_at r r.kind [] false) i;
  calling = calling_more r [] i;
  framed = framed_more r [] i;
}

-- a later report
raised_from : (plan : Option Plan) (key : Key) (r : ReportFacts) (b : Bool) (o : ReportFacts)
    (os : List ReportFacts) (x : ReportFacts)
    → row_from plan key b (r ∷ o ∷ os) x ≡ raised_row plan (row_from plan key b (o ∷ os) x) r
raised_from plan key r b o os x = λ i. record {
  client = key.client;
  session = key.session;
  account = x.user;
  class = x.class;
  plan = class_of_plan plan;
  input = (greatest plan (r ∷ o ∷ os)).0;
  output = (greatest plan (r ∷ o ∷ os)).1;
  seconds = (row_from plan key b (r ∷ o ∷ os) x).seconds;
  first = (row_from plan key b (r ∷ o ∷ os) x).first;
  last = (row_from plan key b (r ∷ o ∷ os) x).last;
  state = state_at r r.kind (filter (λ y. is_stop y.kind) (o ∷ os)) b i;
  cause = cause_at r r.kind (filter (λ y. is_stop y.kind) (o ∷ os)) b i;
  calling = calling_more r (o ∷ os) i;
  framed = framed_more r (o ∷ os) i;
}

-- one more report of a session with this plan
pub row_from-report : (plan : Option Plan) (r : ReportFacts) (b : Bool) (rs : List ReportFacts)
    → (first_of rs ≡ None → b ≡ false) → row_of_reports plan (report_key r) b (r ∷ rs) ≡ Some
    (next_row_by plan (row_of_reports plan (report_key r) b rs) r)
row_from-report plan r b [] h = ap Some (first_from plan r b (h refl))
row_from-report plan r b (o ∷ os) h =
    let key = report_key r in
    let first = first_is o os in
    let x = first.0 in
    ap (option_map (row_from plan key b (r ∷ o ∷ os))) (first_of-more r x (o ∷ os) first.1)
    ∙ ap Some (raised_from plan key r b o os x)
    ∙ ap (λ f. Some (next_row_by plan (option_map (row_from plan key b (o ∷ os)) f) r))
    (sym first.1)

or_none : {A : Type 0} (o : Option A) (x : A) → option_or o (Some x) ≡ None → ⊥
or_none None x e = cc
or_none (Some y) x e = cc

older_none : (r : ReportFacts) (rs : List ReportFacts) (b : Bool)
    → first_of (cond b (r ∷ rs) rs) ≡ None → first_of rs ≡ None
older_none r rs true e = absurd (or_none (first_of rs) r e)
older_none r rs false e = e

off_at : (m b : Bool) → b ≡ false → ((m && false) || b) ≡ false
off_at true b e = e
off_at false b e = e

-- a session without a report isn't restarted
pub none-restarted : (history : History) (key : Key) → first_of
    (reports history (name_of key)) ≡ None → is_restarted history key ≡ false
none-restarted [] key e = refl
none-restarted (Accepted (entry.Report r) ∷ older) key e = none-restarted older key
    (older_none r (reports older (name_of key)) (same_session (name_of key) (session_of r)) e)
none-restarted (Accepted (entry.Restart x) ∷ older) key e =
    ap (λ o. (bytes_eq x.client key.client && is_some o) || is_restarted older key) e
    ∙ off_at (bytes_eq x.client key.client) (is_restarted older key) (none-restarted older key e)
none-restarted (Accepted (entry.TopUp t) ∷ older) key e = none-restarted older key e
none-restarted (PlansAdded plans ∷ older) key e = none-restarted older key e

-- a plan that was found has the class
found_class : (class : List ℕ) (plans : List Plan) (plan : Plan)
    → find (has_class class) plans ≡ Some plan → class ≡ plan.class
found_class class plans plan h =
    (bytes_eq-Decides class plan.class).0 (find-some (has_class class) plans plan h).1

kept_at : (plans : List Plan) (class : List ℕ) (own : Option Plan)
    → find (has_class class) plans ≡ own → (other : Option Plan)
    → find (has_class default_class) plans ≡ other
    → plan_for plans (class_of_plan (option_or own other)) ≡ option_or own other
kept_at plans class (Some plan) is other default =
    ap (plan_for plans) (sym (found_class class plans plan is))
    ∙ ap (λ o. option_or o (find (has_class default_class) plans)) is
kept_at plans class None is (Some plan) default =
    ap (plan_for plans) (sym (found_class default_class plans plan default))
    ∙ ap (λ o. option_or o o) default
kept_at plans class None is None default = ap (λ o. option_or o o) default

-- the plan of a class is found by its own class
kept_for : (plans : List Plan) (class : List ℕ)
    → plan_for plans (class_of_plan (plan_for plans class)) ≡ plan_for plans class
kept_for plans class = kept_at plans class _ refl _ refl

-- the plan of a session that was opened is found by its own class
named_at : (plans : List Plan) (plan : Option Plan) (o : Option Opening) (first : ReportFacts)
    → option_map (λ opening. opening.first) o ≡ Some first
    → plan ≡ option_and_then (plan_for plans) (option_map class_opened o)
    → plan_for plans (class_of_plan plan) ≡ plan
named_at plans plan None first is named = absurd cc
named_at plans plan (Some opening) first is named =
    ap (λ p. plan_for plans (class_of_plan p)) named
    ∙ (kept_for plans (class_opened opening) ∙ sym named)

-- the row of a session has the session's plan
pub row-plan : (plans : List Plan) (history : History) (key : Key) (first : ReportFacts)
    → first_of (reports history (name_of key)) ≡ Some first → (row : RowFacts)
    → row.plan ≡ class_of_plan (plan_of plans history (name_of key))
    → plan_of_row plans row ≡ plan_of plans history (name_of key)
row-plan plans history key first is row kept =
    let name = name_of key in
    ap (plan_for plans) kept
    ∙ named_at plans (plan_of plans history name) (opening_of plans history name) first
    (opening-first plans history name ∙ is) (plan-kept plans history name)

-- the plan that a report finds is that of its session with it
found-plan : (plans : List Plan) (r : ReportFacts) (history : History) (o : Option ReportFacts)
    → first_of (reports history (session_of r)) ≡ o
    → plan_found plans r (row_of plans history (report_key r))
    ≡ plan_of plans (Accepted (entry.Report r) ∷ history) (session_of r)
found-plan plans r history None is =
    let key = report_key r in
    let old = plan_of plans history (session_of r) in
    ap (λ o. plan_found plans r (option_map (row_from old key (is_restarted history key)
    (reports history (session_of r))) o)) is ∙ sym (plan-first plans history r is)
found-plan plans r history (Some x) is =
    let key = report_key r in
    let old = plan_of plans history (session_of r) in
    let all = reports history (session_of r) in
    ap (λ o. plan_found plans r (option_map (row_from old key (is_restarted history key) all) o)) is
    ∙ (row-plan plans history key x is (row_from old key (is_restarted history key) all x) refl
    ∙ sym (plan-later plans history r x is))

-- the row of the report's session, by the plan from before
grown_at : (plans : List Plan) (r : ReportFacts) (history : History) (o : Option ReportFacts)
    → first_of (reports history (session_of r)) ≡ o
    → row_of_reports (plan_of plans (Accepted (entry.Report r) ∷ history) (session_of r))
    (report_key r) (is_restarted history (report_key r)) (r ∷ reports history (session_of r))
    ≡ Some (next_row_by (plan_of plans (Accepted (entry.Report r) ∷ history) (session_of r))
    (row_of plans history (report_key r)) r)
grown_at plans r history None is =
    let key = report_key r in
    let b = is_restarted history key in
    let rs = reports history (session_of r) in
    let old = plan_of plans history (session_of r) in
    let new = plan_of plans (Accepted (entry.Report r) ∷ history) (session_of r) in
    row_from-report new r b rs (none-restarted history key)
    ∙ ap (λ o. Some (next_row_by new (option_map (row_from new key b rs) o) r)) is
    ∙ sym (ap (λ o. Some (next_row_by new (option_map (row_from old key b rs) o) r)) is)
grown_at plans r history (Some x) is =
    let key = report_key r in
    let b = is_restarted history key in
    let rs = reports history (session_of r) in
    ap (λ p. row_of_reports p key b (r ∷ rs)) (plan-later plans history r x is)
    ∙ row_from-report (plan_of plans history (session_of r)) r b rs (none-restarted history key)
    ∙ ap (λ p. Some (next_row_by p (row_of plans history key) r))
    (sym (plan-later plans history r x is))

-- the row of the report's session
pub row_of-report : (plans : List Plan) (r : ReportFacts) (history : History)
    → row_of plans (Accepted (entry.Report r) ∷ history) (report_key r) ≡ Some
    (next_row plans (row_of plans history (report_key r)) r)
row_of-report plans r history =
    let key = report_key r in
    ap (row_of_reports (plan_of plans (Accepted (entry.Report r) ∷ history) (session_of r)) key
    (is_restarted history key)) (reports-own history r)
    ∙ grown_at plans r history (first_of (reports history (session_of r))) refl
    ∙ ap (λ p. Some (next_row_by p (row_of plans history key) r))
    (sym (found-plan plans r history (first_of (reports history (session_of r))) refl))

-- the other rows stay
pub row_of-other : (plans : List Plan) (r : ReportFacts) (history : History) (key : Key)
    → same_key (report_key r) key ≡ false → row_of plans (Accepted (entry.Report r) ∷ history) key
    ≡ row_of plans history key
row_of-other plans r history key e =
    let other : name_of key ≢ session_of r =
    λ is. true≢false (sym ((Decides-same_key (report_key r) key).1
    (λ i. record { client = (sym is i).client; session = (sym is i).session })) ∙ e) in
    λ i. row_of_reports (plan-other plans history r (name_of key) other i) key
    (is_restarted history key) (reports-other history r (name_of key) other i)

-- ---- a restart

abbrev row_with : Option Plan → Key → List ReportFacts → ReportFacts → SessionState → ℕ → RowFacts
row_with plan key all first state cause = record {
  client = key.client;
  session = key.session;
  account = first.user;
  class = first.class;
  plan = class_of_plan plan;
  input = (greatest plan all).0;
  output = (greatest plan all).1;
  seconds = largest (map (λ report. report.seconds) all);
  first = smallest (map (λ report. report.when) all);
  last = largest (map (λ report. report.when) all);
  state = state;
  cause = cause;
  calling = calling_of all;
  framed = framed_of all;
}

closed_with : (plan : Option Plan) (key : Key) (client : List ℕ) (all : List ReportFacts)
    (x : ReportFacts) (m : Bool)
    (o : Option ReportFacts) (b : Bool) → bytes_eq client key.client ≡ m
    → row_with plan key all x (state_of o ((m && true) || b))
    (cause_of o ((m && true) || b)) ≡ closed_by client (row_with plan key all x (state_of o b)
    (cause_of o b))
closed_with plan key client all x false o b e = sym (ap
    (λ c. let row = row_with plan key all x (state_of o b) (cause_of o b) in cond c
    (closed_row row row.state) row) e)
closed_with plan key client all x true (Some s) b e = sym (ap
    (λ c. let row = row_with plan key all x (state_of (Some s) b) (cause_of (Some s) b) in cond c
    (closed_row row row.state) row) e)
closed_with plan key client all x true None true e = sym (ap (λ c. let row = row_with plan key all x
    (state_of None true) (cause_of None true) in cond c (closed_row row row.state) row) e)
closed_with plan key client all x true None false e = sym (ap
    (λ c. let row = row_with plan key all x (state_of None false) (cause_of None false) in cond c
    (closed_row row row.state) row) e)

closed_at : (plan : Option Plan) (key : Key) (client : List ℕ) (b : Bool) (all : List ReportFacts)
    (o : Option ReportFacts)
    → option_map (row_from plan key ((bytes_eq client key.client && is_some o) || b) all) o
    ≡ option_map
    (closed_by client) (option_map (row_from plan key b all) o)
closed_at plan key client b all None = refl
closed_at plan key client b all (Some x) = ap Some (closed_with plan key client all x
    (bytes_eq client key.client) (first_stop all) b refl)

-- a restart closes the live session of its client
pub row_of-restart : (plans : List Plan) (x : Restart) (history : History) (key : Key)
    → row_of plans (Accepted (entry.Restart x) ∷ history) key
    ≡ option_map (closed_by x.client) (row_of plans history key)
row_of-restart plans x history key =
    closed_at (plan_of plans history (name_of key)) key x.client (is_restarted history key)
    (reports history (name_of key)) (first_of (reports history (name_of key)))
