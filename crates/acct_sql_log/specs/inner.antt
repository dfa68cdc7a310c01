-- What private functions and proofs need, and no public contract reaches.
pub mod Counted
pub mod Reading
