pub mod Add
pub mod List
pub mod inner
