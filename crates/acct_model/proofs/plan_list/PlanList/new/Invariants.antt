use Rattle.std.proofs.Common.{◌≡◌}
use Rattle.acct_model.specs.Faults.{first_fault}
use Rattle.acct_model.specs.PlanFaults.{plan_fault}
use Rattle.acct_model.proofs.Faults.{faults_from}
use Rattle.acct_model.proofs.plan_list.PlanList.new.Given as goal

abbrev pub invariant-loop-i : goal.invariant-loop-i
invariant-loop-i l = faults_from plan_fault l.i l.plans.items ≡ first_fault plan_fault l.plans.items
