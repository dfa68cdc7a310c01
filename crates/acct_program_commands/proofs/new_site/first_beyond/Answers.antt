use Rattle.std.proofs.Common.{rules, arith, IsTrue, subst}
use Rattle.std.specs.Prelude.{All, Contains}
use Rattle.std.proofs.lemmas.List.{take_all}
use Rattle.acct_program_commands.proofs.Elements.{all_more}
use Rattle.acct_program_commands.proofs.new_site.first_beyond.Goals as goal

pub loop-plan-preserved : goal.loop-plan-preserved
loop-plan-preserved c =
    let yes : IsTrue c.is_among.result = search rules in
    all_more (Contains c.args.others.now) c.args.plans.now c.loop-plan.plan-index
    c.plan-item.result c.loop-plan-test.true c.plan-item.is c.loop-plan.invariant
    (c.is_among.ensures.0 yes)

pub returns-clause-none : goal.returns-clause-none
returns-clause-none c =
    subst (All (Contains c.args.others.now))
    (take_all c.loop-plan.plan-index c.args.plans.now (omega (arith, c.loop-plan-test.false)))
    c.loop-plan.invariant
