-- A session keeps its plan: plans that are added later leave it as it is.
use Rattle.std.proofs.Common.{◌≡◌, ◌⊎◌, inl, inr, ℕ, Bool, true, false, ◌&&◌, ◌||◌, not, cond}
use Rattle.std.proofs.Common.{Option, None, Some, List, [], ◌∷◌, refl, sym, ◌∙◌, ap, subst}
use Rattle.std.proofs.Common.{true≢false}
use Rattle.std.specs.Prelude.{bytes_eq, is_some, option_map, Contains}
use Rattle.std.specs.List.{find, list_any}
use Rattle.std.specs.Option.{option_or, option_and_then}
use Rattle.acct_model.specs.declared.plan.Plan.{Plan}
use Rattle.acct_model.specs.declared.entry.Entry.TheVariants as entry
use Rattle.acct_model.specs.Report.{ReportFacts}
use Rattle.acct_model.specs.Plans.{has_class, default_class, plan_for, plan_class, is_added}
use Rattle.acct_model.specs.Plans.{plans_before}
use Rattle.acct_model.specs.History.{Accepted, PlansAdded, History, SessionName, session_of}
use Rattle.acct_model.specs.History.{same_session, all_reports, reports, first_of, Opening}
use Rattle.acct_model.specs.History.{opening_of, plan_opened, class_opened, plan_of, kept_class}
use Rattle.acct_model.specs.Agreement.{AddsForNone}
use Rattle.acct_model.proofs.Same.{Decides-bytes_eq, Decides-false}
use Rattle.acct_model.proofs.Lists.{here, deeper, from_filter, is_some-find, find-none, find-some}
use Rattle.acct_model.proofs.Balances.{opening-first}

-- ---- the plans before an addition

none_left : (b : Bool) → (b && false) ≡ false
none_left true = refl
none_left false = refl

-- `default` is there from the first
pub default-stays : (added : List Plan) → is_added added default_class ≡ false
default-stays added = none_left (list_any (has_class default_class) added)

not_listed : (b c : Bool) → b ≡ false → (b && c) ≡ false
not_listed true c e = absurd (true≢false e)
not_listed false c e = refl

pub not-added : (added : List Plan) (class : List ℕ) → list_any (has_class class) added ≡ false
    → is_added added class ≡ false
not-added added class e =
    not_listed (list_any (has_class class) added) (not (bytes_eq class default_class)) e

-- another class than those that were added has the same plan before
pub find-before : (added plans : List Plan) (class : List ℕ) → is_added added class ≡ false
    → find (has_class class) (plans_before added plans) ≡ find (has_class class) plans
find-before added [] class e = refl
find-before added (p ∷ ps) class e =
    elim (is_added added p.class) as (λ b. is_added added p.class ≡ b
    → find (has_class class) (cond (not b) (p ∷ plans_before added ps) (plans_before added ps))
    ≡ cond (has_class class p) (Some p) (find (has_class class) ps)) [
      | true ↦ λ is.
          let other : bytes_eq class p.class ≡ false =
          Decides-false (bytes_eq class p.class) (Decides-bytes_eq class p.class)
          (λ same. true≢false (sym is ∙ ap (is_added added) (sym same) ∙ e)) in
          find-before added ps class e
          ∙ sym (ap (λ b. cond b (Some p) (find (has_class class) ps)) other)
      | false ↦ λ is. ap (λ o. cond (has_class class p) (Some p) o) (find-before added ps class e)
    ] refl

pub plan_for-before : (added plans : List Plan) (class : List ℕ) → is_added added class ≡ false
    → plan_for (plans_before added plans) class ≡ plan_for plans class
plan_for-before added plans class e =
    λ i. option_or (find-before added plans class e i)
    (find-before added plans default_class (default-stays added) i)

-- ---- the class of a plan

none_found : (o : Option Plan) → is_some o ≡ false → o ≡ None
none_found None e = refl
none_found (Some x) e = absurd (true≢false e)

same_twice : (o : Option Plan) → option_or o o ≡ o
same_twice None = refl
same_twice (Some x) = refl

-- the plan of a class is that of the class of the plan
pub plan_for-class : (plans : List Plan) (class : List ℕ)
    → plan_for plans (plan_class plans class) ≡ plan_for plans class
plan_for-class plans class =
    elim (list_any (has_class class) plans) as (λ b. list_any (has_class class) plans ≡ b
    → plan_for plans (cond b class default_class) ≡ plan_for plans class) [
      | true ↦ λ e. refl
      | false ↦ λ e.
          let default = find (has_class default_class) plans in
          same_twice default
          ∙ sym (ap (λ o. option_or o default)
          (none_found (find (has_class class) plans) (is_some-find (has_class class) plans ∙ e)))
    ] refl

-- the plan that has a class is of the class's plan's class
pub plan_class-own : (plans : List Plan) (class : List ℕ) (plan : Plan)
    → find (has_class class) plans ≡ Some plan → plan.class ≡ plan_class plans class
plan_class-own plans class plan is =
    sym ((Decides-bytes_eq class plan.class).0 (find-some (has_class class) plans plan is).1)
    ∙ sym (ap (λ b. cond b class default_class)
    (sym (is_some-find (has_class class) plans) ∙ ap is_some is))

-- and so is `default`, if no plan has the class
pub plan_class-default : (plans : List Plan) (class : List ℕ) (plan : Plan)
    → find (has_class class) plans ≡ None → find (has_class default_class) plans ≡ Some plan
    → plan.class ≡ plan_class plans class
plan_class-default plans class plan none is =
    sym ((Decides-bytes_eq default_class plan.class).0
    (find-some (has_class default_class) plans plan is).1)
    ∙ sym (ap (λ b. cond b class default_class) (find-none (has_class class) plans none))

-- a class that a session may keep: some plan has it, or it is `default`
abbrev pub MayKeep : List Plan → List ℕ → Type 0
MayKeep plans class = (class ≡ default_class) ⊎ (list_any (has_class class) plans ≡ true)

may_keep : (plans : List Plan) (class : List ℕ) → MayKeep plans (plan_class plans class)
may_keep plans class =
    elim (list_any (has_class class) plans) as (λ b. list_any (has_class class) plans ≡ b
    → MayKeep plans (cond b class default_class)) [
      | true ↦ λ e. inr e
      | false ↦ λ e. inl refl
    ] refl

or_right : (a b : Bool) → b ≡ true → (a || b) ≡ true
or_right true b e = refl
or_right false b e = e

-- a class of a plan before is a class of a plan now, and none of those that were added
pub any-before : (added plans : List Plan) (class : List ℕ)
    → list_any (has_class class) (plans_before added plans) ≡ true
    → (is_added added class ≡ false) × (list_any (has_class class) plans ≡ true)
any-before added [] class e = absurd (true≢false (sym e))
any-before added (p ∷ ps) class e =
    elim (is_added added p.class) as (λ b. is_added added p.class ≡ b
    → list_any (has_class class) (cond (not b) (p ∷ plans_before added ps) (plans_before added ps))
    ≡ true
    → (is_added added class ≡ false) × (list_any (has_class class) (p ∷ ps) ≡ true)) [
      | true ↦ λ is h.
          let rest = any-before added ps class h in
          (rest.0, or_right (has_class class p) (list_any (has_class class) ps) rest.1)
      | false ↦ λ is h.
          elim (has_class class p) as (λ b. has_class class p ≡ b
          → (b || list_any (has_class class) (plans_before added ps)) ≡ true
          → (is_added added class ≡ false) × ((b || list_any (has_class class) ps) ≡ true)) [
            | true ↦ λ own _. (
              ap (is_added added) ((Decides-bytes_eq class p.class).0 own) ∙ is,
              refl,
            )
            | false ↦ λ own k. any-before added ps class k
          ] refl h
    ] refl e

-- what a session kept before an addition it keeps after it, and its plan with it
kept_on : (added plans : List Plan) (class : List ℕ) → MayKeep (plans_before added plans) class
    → MayKeep plans class × (plan_for (plans_before added plans) class ≡ plan_for plans class)
kept_on added plans class (inl is) = (
  inl is,
  plan_for-before added plans class (ap (is_added added) is ∙ default-stays added),
)
kept_on added plans class (inr listed) =
    let both = any-before added plans class listed in
    (inr both.1, plan_for-before added plans class both.0)

-- ---- the plan of a session

-- the plan that a session was opened with is the one of the kept class, among the plans in force
abbrev pub Keeps : List Plan → Opening → Type 0
Keeps plans opening =
    MayKeep plans (class_opened opening)
    × (plan_opened opening ≡ plan_for plans (class_opened opening))

opens_kept : (plans : List Plan) (name : SessionName) (r : ReportFacts) (o : Option Opening)
    (b : Bool) (opening : Opening)
    → ((earlier : Opening) → o ≡ Some earlier → Keeps plans earlier)
    → option_or o (cond b (Some (record { first = r; plans = plans })) None) ≡ Some opening
    → Keeps plans opening
opens_kept plans name r (Some earlier) b opening before is = before opening is
opens_kept plans name r None true opening before is =
    let new : Opening = record { first = r; plans = plans } in
    let same : new ≡ opening = cc in
    subst (Keeps plans) same
    (may_keep plans r.class, sym (plan_for-class plans r.class))
opens_kept plans name r None false opening before is = absurd (cc)

pub opening-kept : (plans : List Plan) (history : History) (name : SessionName)
    (opening : Opening) → opening_of plans history name ≡ Some opening → Keeps plans opening
opening-kept plans [] name opening is = absurd (cc)
opening-kept plans (Accepted (entry.Report r) ∷ older) name opening is =
    opens_kept plans name r (opening_of plans older name) (same_session name (session_of r)) opening
    (opening-kept plans older name) is
opening-kept plans (Accepted (entry.Restart x) ∷ older) name opening is =
    opening-kept plans older name opening is
opening-kept plans (Accepted (entry.TopUp t) ∷ older) name opening is =
    opening-kept plans older name opening is
opening-kept plans (PlansAdded added ∷ older) name opening is =
    let before = opening-kept (plans_before added plans) older name opening is in
    let now = kept_on added plans (class_opened opening) before.0 in
    (now.0, before.1 ∙ now.1)

kept_at : (plans : List Plan) (o : Option Opening)
    → ((opening : Opening) → o ≡ Some opening → Keeps plans opening)
    → option_and_then plan_opened o
    ≡ option_and_then (plan_for plans) (option_map class_opened o)
kept_at plans None keeps = refl
kept_at plans (Some opening) keeps = (keeps opening refl).1

-- The plan of a session is the one in force that has the kept class.
pub plan-kept : (plans : List Plan) (history : History) (name : SessionName)
    → plan_of plans history name
    ≡ option_and_then (plan_for plans) (kept_class plans history name)
plan-kept plans history name =
    kept_at plans (opening_of plans history name) (opening-kept plans history name)

-- ---- if plans were added only for classes that no report has

-- the plan that the class of a first report names
abbrev pub plan_by : List Plan → Option ReportFacts → Option Plan
plan_by plans None = None
plan_by plans (Some first) = plan_for plans first.class

first_stands : (rs : List ReportFacts) (first : ReportFacts) → first_of rs ≡ Some first
    → Contains rs first
first_stands [] first e = cc
first_stands (r ∷ rs) first e =
    elim (first_of rs) as (λ o. first_of rs ≡ o → option_or o (Some r) ≡ Some first
    → Contains (r ∷ rs) first) [
      | None ↦ λ is h. let same : r ≡ first =
          cc in subst (λ v. Contains (r ∷ rs) v) same (here r rs)
      | Some x ↦ λ is h. deeper r first rs (first_stands rs first (is ∙ h))
    ] refl e

frozen_at : (added plans : List Plan) (o : Option ReportFacts)
    → ((first : ReportFacts) → o ≡ Some first → list_any (has_class first.class) added ≡ false)
    → plan_by (plans_before added plans) o ≡ plan_by plans o
frozen_at added plans None fresh = refl
frozen_at added plans (Some first) fresh =
    plan_for-before added plans first.class (not-added added first.class (fresh first refl))

report_plan : (plans : List Plan) (name : SessionName) (r : ReportFacts) (o : Option Opening)
    (rs : List ReportFacts) (b : Bool)
    → option_map (λ opening. opening.first) o ≡ first_of rs
    → option_and_then plan_opened o ≡ plan_by plans (first_of rs)
    → option_and_then plan_opened
    (option_or o (cond b (Some (record { first = r; plans = plans })) None))
    ≡ plan_by plans (first_of (cond b (r ∷ rs) rs))
report_plan plans name r (Some opening) rs true first is =
    is ∙ ap (plan_by plans) (sym first) ∙ ap (λ f. plan_by plans (option_or f (Some r))) first
report_plan plans name r None rs true first is =
    ap (λ f. plan_by plans (option_or f (Some r))) first
report_plan plans name r (Some opening) rs false first is = is
report_plan plans name r None rs false first is = is

-- Then the plan of a session is the one of its first report's class among those in force at the
-- end.
pub plan-frozen : (plans : List Plan) (history : History) (name : SessionName)
    → AddsForNone history
    → plan_of plans history name ≡ plan_by plans (first_of (reports history name))
plan-frozen plans [] name fresh = refl
plan-frozen plans (Accepted (entry.Report r) ∷ older) name fresh =
    report_plan plans name r (opening_of plans older name) (reports older name)
    (same_session name (session_of r)) (opening-first plans older name)
    (plan-frozen plans older name fresh)
plan-frozen plans (Accepted (entry.Restart x) ∷ older) name fresh =
    plan-frozen plans older name fresh
plan-frozen plans (Accepted (entry.TopUp t) ∷ older) name fresh =
    plan-frozen plans older name fresh
plan-frozen plans (PlansAdded added ∷ older) name fresh =
    plan-frozen (plans_before added plans) older name fresh.1
    ∙ frozen_at added plans (first_of (reports older name))
    (λ first is. fresh.0 first
    (from_filter (λ r. same_session name (session_of r)) (all_reports older) first
    (first_stands (reports older name) first is)).0)
