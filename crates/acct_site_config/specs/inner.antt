-- What private functions and proofs need, and no public contract reaches.
pub mod ClientTables
pub mod KeyTables
pub mod PlanTables
pub mod StampTables
pub mod WithdrawnTables
