use Rattle.std.proofs.Common.{◌∙◌, ap, sym}
use Rattle.acct_model.specs.Plans.{plan_for, plan_class}
use Rattle.acct_book_audit.specs.Balancing.{is_planned}
use Rattle.acct_book_audit.proofs.Right.{planned_is}
use Rattle.acct_book_audit.proofs.statement.is_planned.Goals as goal

pub returns : goal.returns
returns c =
    let plans = c.args.plans.now in
    let class = c.as_slice.ensures in
    c.eq.ensures
    ∙ planned_is plans c.row.inside.plan c.plan_of.result.now
    (ap (plan_for plans) (sym class) ∙ c.plan_of.ensures.found)
    (c.plan_of.ensures.class ∙ ap (plan_class plans) class)
    ∙ ap (is_planned plans) c.row.view_is
