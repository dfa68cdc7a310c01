-- One table of a plan.
use Rattle.toml.specs.Data.{Data}
use Rattle.acct_model.specs.declared.plan.Plan.{Plan}
use Rattle.acct_model.specs.PlanFaults.{plan_fault}
use Rattle.acct_site_config.specs.declared.config_error.ConfigKind.{ConfigKind}
use Rattle.acct_site_config.specs.declared.config_error.ConfigKind.TheVariants.{BadPlan}
use Rattle.acct_site_config.specs.Entries as entries
use Rattle.acct_site_config.specs.PlanTables.{plan_values, SaysPlan}

abbrev pub SpellsPlan : Data → Plan → Type 0
SpellsPlan = entries.SpellsTable plan_values SaysPlan plan_fault

-- why a table is no plan, or out of memory
abbrev pub IsNoPlan : Data → ConfigKind → Type 0
IsNoPlan = entries.IsUnspelled plan_values SaysPlan plan_fault BadPlan
