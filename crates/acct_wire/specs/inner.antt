-- What private functions and proofs need, and no public contract reaches.
pub mod Datagrams
pub mod Hearing
