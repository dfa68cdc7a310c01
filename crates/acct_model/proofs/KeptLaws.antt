-- The laws of plans that are added later.
use Rattle.std.proofs.Common.{◌≡◌, inl, inr, ℕ, Bool, true, false, ◌&&◌, not, cond}
use Rattle.std.proofs.Common.{None, Some, List, [], ◌∷◌, ◌++◌, refl, sym, ◌∙◌, ap, subst}
use Rattle.std.proofs.Common.{true≢false}
use Rattle.std.proofs.lemmas.List.Elements.{All-contains, Contains-append_right}
use Rattle.std.specs.Prelude.{bytes_eq, Contains}
use Rattle.std.specs.List.{find, list_any}
use Rattle.std.specs.Option.{option_or, option_and_then}
use Rattle.acct_model.specs.declared.plan.Plan.{Plan}
use Rattle.acct_model.specs.declared.entry.Entry.TheVariants as entry
use Rattle.acct_model.specs.Report.{ReportFacts}
use Rattle.acct_model.specs.Faults.{first_fault, first_fault_after}
use Rattle.acct_model.specs.Plans.{has_class, default_class, is_added, plans_before, Extends}
use Rattle.acct_model.specs.Plans.{plans_added}
use Rattle.acct_model.specs.PlanFaults.{plan_fault, default_fault, plans_fault}
use Rattle.acct_model.specs.History.{Accepted, PlansAdded, History, session_of, reports, first_of}
use Rattle.acct_model.specs.History.{plans_then, opened_by, opening_of, plan_opened}
use Rattle.acct_model.specs.KeptLaws.{PlansAreKept}
use Rattle.acct_model.proofs.Faults.{first_none, second_none}
use Rattle.acct_model.proofs.Same.{Decides-bytes_eq, Decides-false}
use Rattle.acct_model.proofs.Lists.{here, nowhere, front_or_behind, from_filter, to_filter}
use Rattle.acct_model.proofs.Lists.{some_same, found_same, find-none, find-some}
use Rattle.acct_model.proofs.PlanFaults.{default_found}
use Rattle.acct_model.proofs.PlanLaws.{apart}
use Rattle.acct_model.proofs.Balances.{opening-none}
use Rattle.acct_model.proofs.Kept.{not-added, find-before, plan-kept}
use Rattle.acct_model.proofs.SamePlans.{SamePlans, none-before, same-balance}

-- ---- the plan that the first report found

-- nothing later changes how a session was opened
opened_then : (plans : List Plan) (later older : History) (r : ReportFacts)
    → reports older (session_of r) ≡ []
    → opening_of plans (later ++ Accepted (entry.Report r) ∷ older) (session_of r)
    ≡ Some (record { first = r; plans = plans_then plans later })
opened_then plans [] older r none = opening-none plans older r (ap first_of none)
opened_then plans (Accepted (entry.Report x) ∷ later) older r none =
    ap (λ o. option_or o (opened_by plans (session_of r) x)) (opened_then plans later older r none)
opened_then plans (Accepted (entry.Restart x) ∷ later) older r none =
    opened_then plans later older r none
opened_then plans (Accepted (entry.TopUp t) ∷ later) older r none =
    opened_then plans later older r none
opened_then plans (PlansAdded added ∷ later) older r none =
    opened_then (plans_before added plans) later older r none

-- ---- plans that extend others

-- of plans without a fault each is the one of its class
find_own : (earlier plans : List Plan) (p : Plan)
    → first_fault_after plan_fault earlier plans ≡ None → Contains plans p
    → find (has_class p.class) plans ≡ Some p
find_own earlier [] p e there = absurd (nowhere p there)
find_own earlier (x ∷ xs) p e there =
    let rest = second_none (plan_fault earlier x)
    (first_fault_after plan_fault (earlier ++ x ∷ []) xs) e in
    elim (front_or_behind x p xs there) [
      | inl is ↦ subst (λ (v : Plan). find (has_class v.class) (x ∷ xs) ≡ Some v) is
          (ap (λ b. cond b (Some x) (find (has_class x.class) xs))
          ((Decides-bytes_eq x.class x.class).1 refl))
      | inr behind ↦
          let differs = (apart (earlier ++ x ∷ []) xs rest).1 x p
          (Contains-append_right earlier (x ∷ []) x (here x [])) behind in
          let other : bytes_eq p.class x.class ≡ false =
          Decides-false (bytes_eq p.class x.class) (Decides-bytes_eq p.class x.class)
          (λ same. differs (sym same)) in
          ap (λ b. cond b (Some x) (find (has_class p.class) xs)) other
          ∙ find_own (earlier ++ x ∷ []) xs p rest behind
    ]

own_class : (class : List ℕ) (plans : List Plan) (p : Plan)
    → find (has_class class) plans ≡ Some p → class ≡ p.class
own_class class plans p e =
    (Decides-bytes_eq class p.class).0 (find-some (has_class class) plans p e).1

-- none of the added plans has a class that an old one has
old_stays : (old new : List Plan) (class : List ℕ) → list_any (has_class class) old ≡ true
    → list_any (has_class class) (plans_added old new) ≡ false
old_stays old new class listed =
    elim (list_any (has_class class) (plans_added old new)) as (λ b.
    list_any (has_class class) (plans_added old new) ≡ b → b ≡ false) [
      | true ↦ λ e.
          let x = found_same (has_class class) (plans_added old new) e in
          let kept = from_filter (λ plan. not (list_any (has_class plan.class) old)) new x.0 x.1 in
          let same : class ≡ x.0.class = (Decides-bytes_eq class x.0.class).0 x.2 in
          let gone : not (list_any (has_class x.0.class) old) ≡ false =
          ap not (ap (λ c. list_any (has_class c) old) (sym same) ∙ listed) in
          absurd (true≢false (sym kept.1 ∙ gone))
      | false ↦ λ e. refl
    ] refl

found_old : (old new : List Plan) (class : List ℕ) (p : Plan)
    → first_fault plan_fault new ≡ None → Extends new old
    → find (has_class class) old ≡ Some p
    → find (has_class class) old ≡ find (has_class class) (plans_before (plans_added old new) new)
found_old old new class p good extends is =
    let there = find-some (has_class class) old p is in
    let same = own_class class old p is in
    let listed : list_any (has_class class) old ≡ true =
    some_same (λ _ y. has_class class y) p p old there.0 there.1 in
    let now : find (has_class class) new ≡ Some p =
    ap (λ c. find (has_class c) new) same
    ∙ find_own [] new p good (All-contains (λ plan. Contains new plan) old p extends there.0) in
    is ∙ sym (find-before (plans_added old new) new class
    (not-added (plans_added old new) class (old_stays old new class listed)) ∙ now)

added_true : (a b : Bool) → a ≡ true → b ≡ false → (a && not b) ≡ true
added_true true false e f = refl
added_true true true e f = absurd (true≢false f)
added_true false b e f = absurd (true≢false (sym e))

found_none : (old new : List Plan) (class : List ℕ) → plans_fault old ≡ None
    → find (has_class class) old ≡ None
    → None ≡ find (has_class class) (plans_before (plans_added old new) new)
found_none old new class good none =
    let added = plans_added old new in
    elim (is_added added class) as (λ b. is_added added class ≡ b
    → None ≡ find (has_class class) (plans_before added new)) [
      | true ↦ λ e. sym (none-before added new class e)
      | false ↦ λ e.
          elim (find (has_class class) new) as (λ o. find (has_class class) new ≡ o
          → None ≡ o) [
            | None ↦ λ n. refl
            | Some q ↦ λ some.
                let there = find-some (has_class class) new q some in
                let same = own_class class new q some in
                let fresh : list_any (has_class q.class) old ≡ false =
                ap (λ c. list_any (has_class c) old) (sym same)
                ∙ find-none (has_class class) old none in
                let listed : list_any (has_class class) added ≡ true =
                some_same (λ _ y. has_class class y) q q added
                (to_filter (λ plan. not (list_any (has_class plan.class) old)) new q there.0
                (ap not fresh)) there.1 in
                let other : bytes_eq class default_class ≡ false =
                Decides-false (bytes_eq class default_class) (Decides-bytes_eq class default_class)
                (λ is. default_found old good (ap (λ c. find (has_class c) old) (sym is) ∙ none)) in
                absurd (true≢false (sym (added_true (list_any (has_class class) added)
                (bytes_eq class default_class) listed other) ∙ e))
          ] refl ∙ sym (find-before added new class e)
    ] refl

-- before their addition the new plans are the old ones
pub before-added : (old new : List Plan) → plans_fault old ≡ None → plans_fault new ≡ None
    → Extends new old → SamePlans old (plans_before (plans_added old new) new)
before-added old new good fine extends class =
    elim (find (has_class class) old) as (λ o. find (has_class class) old ≡ o
    → o ≡ find (has_class class) (plans_before (plans_added old new) new)) [
      | None ↦ λ is. found_none old new class good is
      | Some p ↦ λ is. sym is
          ∙ found_old old new class p
          (first_none (first_fault plan_fault new) (default_fault new) fine) extends is
    ] refl

pub plans_kept : PlansAreKept
plans_kept = record {
  found = λ plans later older report none.
      ap (option_and_then plan_opened) (opened_then plans later older report none);
  kept = plan-kept;
  added = λ old new history account good fine extends.
      sym (same-balance old (plans_before (plans_added old new) new) history account
      (before-added old new good fine extends));
}
