-- Which plans are in force in a life, as its history shows.
use Rattle.std.proofs.Common.{◌≡◌, inl, inr, List, [], ◌∷◌, ◌++◌, refl, sym, ◌∙◌, ap, subst}
use Rattle.std.proofs.Common.{append_assoc}
use Rattle.std.specs.List.{find}
use Rattle.acct_model.specs.declared.plan.Plan.{Plan}
use Rattle.acct_model.specs.declared.entry.Entry.{Entry}
use Rattle.acct_model.specs.Plans.{has_class, plans_before, plans_added}
use Rattle.acct_model.specs.History.{Accepted, PlansAdded, History, plans_then}
use Rattle.acct_model.proofs.KeptLaws.{before-added}
use Rattle.acct_model.proofs.SamePlans.{SamePlans, same-plan_for, same-before}
use Rattle.acct_service.specs.Life.{Span, Past, LivesOn, Life}
use Rattle.acct_service.specs.Settling.{PlansAreTold, history_of}
use Rattle.acct_service.proofs.Spans.{Accepts, AddsPlans, moved, grown}

-- ---- the plans before two lists of members

then_twice : (plans : List Plan) (newest newer : History)
    → plans_then plans (newest ++ newer) ≡ plans_then (plans_then plans newest) newer
then_twice plans [] newer = refl
then_twice plans (Accepted e ∷ newest) newer = then_twice plans newest newer
then_twice plans (PlansAdded more ∷ newest) newer =
    then_twice (plans_before more plans) newest newer

same_then : (these those : List Plan) (later : History) → SamePlans these those
    → SamePlans (plans_then these later) (plans_then those later)
same_then these those [] same = same
same_then these those (Accepted e ∷ later) same = same_then these those later same
same_then these those (PlansAdded more ∷ later) same =
    same_then (plans_before more these) (plans_before more those) later
    (same-before more these those same)

-- entries add none
then_entries : (plans : List Plan) (entries : List Entry)
    → plans_then plans (history_of entries) ≡ plans
then_entries plans [] = refl
then_entries plans (e ∷ entries) = then_entries plans entries

-- the same list of plans is the same plans
same_list : (these those : List Plan) → these ≡ those → SamePlans these those
same_list these those is class = ap (λ plans. find (has_class class) plans) is

same_twice : (these those others : List Plan) → SamePlans these those → SamePlans those others
    → SamePlans these others
same_twice these those others first second class = first class ∙ second class

-- ---- spans

-- before what was added since, these plans were those
abbrev Tells : List Plan → History → List Plan → History → Type 0
Tells those old these new = (newer : History) × (new ≡ newer ++ old)
    × SamePlans (plans_then these newer) those

tells_both : (first second third : List Plan) (old mid new : History)
    → Tells first old second mid → Tells second mid third new → Tells first old third new
tells_both first second third old mid new (newer, is, same) (newest, was, also) = (
  newest ++ newer,
  was ∙ ap (λ h. newest ++ h) is ∙ sym (append_assoc newest newer old),
  same_twice (plans_then third (newest ++ newer)) (plans_then second newer) first
      (same_twice (plans_then third (newest ++ newer))
      (plans_then (plans_then third newest) newer) (plans_then second newer)
      (same_list (plans_then third (newest ++ newer))
      (plans_then (plans_then third newest) newer) (then_twice third newest newer))
      (same_then (plans_then third newest) second newer also)) same,
)

accepts_tells : (old new : Past) → Accepts old new
    → Tells old.plans old.whole new.plans new.whole
accepts_tells old new a = (
  history_of a.entries,
  a.was,
  same_list (plans_then new.plans (history_of a.entries)) old.plans
      (then_entries new.plans a.entries ∙ a.plans),
)

adds_tells : (old new : Past) → AddsPlans old new
    → Tells old.plans old.whole new.plans new.whole
adds_tells old new a = (
  PlansAdded (plans_added old.plans a.more) ∷ [],
  a.was,
  subst (λ ps. SamePlans (plans_before (plans_added old.plans a.more) ps) old.plans)
      (sym a.plans)
      (λ class. sym (before-added old.plans a.more a.may.old_are_good a.may.new_are_good
      a.may.extends class)),
)

span_tells : (old new : Past) (span : Span) → LivesOn old span new
    → Tells old.plans old.whole new.plans new.whole
span_tells old new span lives =
    elim (moved old new span lives) [
      | inl g ↦ elim (grown old new span g) [
        | inl a ↦ accepts_tells old new a
        | inr a ↦ adds_tells old new a
      ]
      | inr c ↦ ([], c.whole, same_list new.plans old.plans c.plans)
    ]

life_tells : (old last : Past) (spans : List Span) → Life old spans last
    → Tells old.plans old.whole last.plans last.whole
life_tells old last [] is = (
  [],
  ap (λ (past : Past). past.whole) is,
  same_list last.plans old.plans (ap (λ (past : Past). past.plans) is),
)
life_tells old last (span ∷ spans) (mid, first, rest) =
    tells_both old.plans mid.plans last.plans old.whole mid.whole last.whole
    (span_tells old mid span first) (life_tells mid last spans rest)

pub plans_are_told : (old last : Past) (spans : List Span) → Life old spans last
    → PlansAreTold old last
plans_are_told old last spans life =
    let (newer, is, same) = life_tells old last spans life in
    (newer, is, λ class. same-plan_for (plans_then last.plans newer) old.plans class same)
