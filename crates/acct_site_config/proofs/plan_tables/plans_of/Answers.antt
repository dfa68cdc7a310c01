use Rattle.std.proofs.Common.{◌∙◌, inr, ap}
use Rattle.acct_site_config.specs.PlanTables.{plan_kind}
use Rattle.acct_site_config.specs.Tables.{top_error}
use Rattle.acct_site_config.proofs.PlanLemmas.{lacks_default}
use Rattle.acct_site_config.proofs.plan_tables.plans_of.Goals as goal

pub returns-in-Err-clause-refused : goal.returns-in-Err-clause-refused
returns-in-Err-clause-refused c =
    let plans = c.in_ok-list.list in
    let fault = c.in-Err.fault in
    let lacks = lacks_default plans fault c.in-Err.ensures.fault in
    inr (inr (record {
      told = c.top.ensures ∙ ap top_error (c.from.ensures ∙ ap plan_kind lacks.1);
      plans = plans;
      spelled = c.in_ok-list.ensures.spelled;
      lacks = lacks.0;
    }))
