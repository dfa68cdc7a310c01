-- What private functions and proofs need, and no public contract reaches.
pub mod Places
pub mod RadiusSockets
pub mod Sent
pub mod Turns
