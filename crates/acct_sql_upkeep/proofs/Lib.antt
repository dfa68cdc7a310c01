mod MigrationLemmas
mod BecomeLemmas
mod NumberLemmas
mod PlanLemmas
mod AddLemmas
