use Rattle.std.proofs.Common.{◌≡◌, take}
use Rattle.std.specs.List.{AllByRecursion}
use Rattle.acct_model.specs.declared.plan.Plan.{Plan}
use Rattle.acct_model.specs.declared.plan.Count.TheVariants.{Both}
use Rattle.acct_sql_upkeep.proofs.migrating.count_both.Given as goal

abbrev pub invariant-loop-plan : goal.invariant-loop-plan
invariant-loop-plan l = AllByRecursion (λ (plan : Plan). plan.count ≡ Both)
    (take l.plan-index l.plans)
