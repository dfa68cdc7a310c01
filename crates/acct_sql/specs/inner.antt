-- What the private functions of the crate promise one another. No public contract cites it.
pub mod Known
pub mod Remembered
