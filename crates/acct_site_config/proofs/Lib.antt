pub mod EntryLemmas
pub mod TableLemmas
pub mod ClientLemmas
pub mod PlanLemmas
pub mod ConfigLemmas
pub mod StampLemmas
