-- What private functions and proofs need, and no public contract reaches.
pub mod Calls
pub mod Step
