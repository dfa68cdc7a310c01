use Rattle.std.proofs.Common.{◌≡◌, Some, sym, ◌∙◌, ap}
use Rattle.std.specs.List.{find}
use Rattle.std.specs.Option.{option_copied}
use Rattle.acct_model.specs.Plans.{has_class, default_class, plan_class}
use Rattle.acct_model.proofs.PlanFaults.{default_found, IsPlan, IsPlan-found}
use Rattle.acct_model.proofs.Kept.{plan_class-own, plan_class-default}
use Rattle.acct_model.proofs.plans.Plans.plan_of.Goals as goal

pub unreachable-requires : goal.unreachable-requires
unreachable-requires c =
    default_found c.self.inside.plans.items c.self.invariant.faultless
    (ap (find (has_class default_class)) (sym c.deref-in-None.ensures.value)
    ∙ sym c.in-None-find_plan.ensures)

own : (c : goal.In-Some) → IsPlan c.in-Some.plan.now
own c =
    IsPlan-found (has_class c.args.class.now) c.self.inside.plans.items c.in-Some.plan.now
    c.self.invariant.faultless
    (ap (find (has_class c.args.class.now)) (sym c.deref.ensures.value) ∙ sym c.find_plan.ensures
    ∙ ap option_copied c.in-Some.is)

other : (c : goal.In-Some-find_plan) → IsPlan c.in-Some-find_plan.plan.now
other c =
    IsPlan-found (has_class default_class) c.self.inside.plans.items c.in-Some-find_plan.plan.now
    c.self.invariant.faultless
    (ap (find (has_class default_class)) (sym c.deref-in-None.ensures.value)
    ∙ sym c.find_plan-in-None.ensures ∙ ap option_copied c.in-Some-find_plan.is)

pub returns-in-Some-clause-block : goal.returns-in-Some-clause-block
returns-in-Some-clause-block c = (own c).block

pub returns-in-Some-clause-unit : goal.returns-in-Some-clause-unit
returns-in-Some-clause-unit c = (own c).unit

pub returns-in-Some-find_plan-clause-block : goal.returns-in-Some-find_plan-clause-block
returns-in-Some-find_plan-clause-block c = (other c).block

pub returns-in-Some-find_plan-clause-unit : goal.returns-in-Some-find_plan-clause-unit
returns-in-Some-find_plan-clause-unit c = (other c).unit

found : (c : goal.In-Some) → find (has_class c.args.class.now) c.self.inside.plans.items
    ≡ Some c.in-Some.plan.now
found c = ap (find (has_class c.args.class.now)) (sym c.deref.ensures.value)
    ∙ sym c.find_plan.ensures ∙ ap option_copied c.in-Some.is

pub returns-in-Some-clause-class : goal.returns-in-Some-clause-class
returns-in-Some-clause-class c =
    plan_class-own c.self.inside.plans.items c.args.class.now c.in-Some.plan.now (found c)
    ∙ ap (λ ps. plan_class ps c.args.class.now) c.self.view_is

pub returns-in-Some-find_plan-clause-class : goal.returns-in-Some-find_plan-clause-class
returns-in-Some-find_plan-clause-class c =
    plan_class-default c.self.inside.plans.items c.args.class.now c.in-Some-find_plan.plan.now
    (ap (find (has_class c.args.class.now)) (sym c.deref.ensures.value) ∙ sym c.find_plan.ensures
    ∙ ap option_copied c.in-None.is)
    (ap (find (has_class default_class)) (sym c.deref-in-None.ensures.value)
    ∙ sym c.find_plan-in-None.ensures ∙ ap option_copied c.in-Some-find_plan.is)
    ∙ ap (λ ps. plan_class ps c.args.class.now) c.self.view_is
