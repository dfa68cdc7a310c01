pub mod Commands
pub mod Faults
pub mod Files
pub mod Jobs
pub mod Looks
pub mod Promise
pub mod inner
