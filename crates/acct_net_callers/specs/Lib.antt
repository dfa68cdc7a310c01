pub mod Progress
pub mod Timeouts
pub mod Transfer
