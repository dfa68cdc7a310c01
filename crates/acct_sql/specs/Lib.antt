pub mod Kept
pub mod inner
pub mod NextStart
