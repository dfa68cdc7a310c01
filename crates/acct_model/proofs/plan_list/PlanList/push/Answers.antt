use Rattle.std.proofs.Common.{◌≡◌, None, rules, true}
use Rattle.std.specs.Result.{is_ok}
use Rattle.acct_model.specs.PlanFaults.{plan_fault}
use Rattle.acct_model.proofs.Faults.{faultless_more}
use Rattle.acct_model.proofs.plan_list.PlanList.push.Goals as goal

pub invariant_of-self-2 : goal.invariant_of-self-2
invariant_of-self-2 c =
    let plans = c.self.inside.plans.items in
    let plan = c.args.plan in
    let pushed : is_ok c.push.result ≡ true = search rules in
    let alone : plan_fault plans plan ≡ None = search rules in
    rw (c.push.ensures.items, pushed)
    (record { faultless = faultless_more plan_fault plans plan c.self.invariant.faultless alone })
