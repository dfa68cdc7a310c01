use Rattle.std.proofs.Common.{refl}
use Rattle.toml.specs.View.{view}
use Rattle.acct_model.specs.declared.plans.PlanError.TheVariants.{Memory}
use Rattle.acct_model.specs.PlanFaults.{plan_fault}
use Rattle.acct_site_config.specs.declared.config_error.ConfigKind.TheVariants.{BadPlan}
use Rattle.acct_site_config.specs.PlanTables.{plan_values, SaysPlan, plan_kind}
use Rattle.acct_site_config.proofs.EntryLemmas.{more_entries, unspelled, faulty}
use Rattle.acct_site_config.proofs.plan_tables.PlanListEntries.push_table.Goals as goal

pub returns-in_err-plan-clause-refused : goal.returns-in_err-plan-clause-refused
returns-in_err-plan-clause-refused c =
    unspelled plan_values SaysPlan plan_fault BadPlan plan_kind c.args.self.now
    (view c.args.table.now) c.in_err-plan.field-0.0 c.from_residual.result
    c.from_residual.ensures.1 c.in_err-plan.ensures.refused

pub returns-in_err-push-clause-refused : goal.returns-in_err-push-clause-refused
returns-in_err-push-clause-refused c =
    faulty plan_values SaysPlan plan_fault BadPlan plan_kind Memory
    c.in_err-push.field-0.0 c.args.self.now (view c.args.table.now) c.in_ok-plan.plan
    c.from_residual-in_err-push.result c.from_residual-in_err-push.ensures.1
    c.in_ok-plan.ensures.spelled c.in_err-push.ensures.refused refl

pub returns-clause-pushed : goal.returns-clause-pushed
returns-clause-pushed c tables are =
    rw c.in_ok-push.ensures.pushed
    (more_entries plan_values SaysPlan plan_fault tables c.args.self.now (view c.args.table.now)
    c.in_ok-plan.plan are c.in_ok-plan.ensures.spelled c.in_ok-push.ensures.faultless)
