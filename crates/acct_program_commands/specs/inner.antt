-- What private functions and proofs need, and no public contract reaches.
pub mod Stops
pub mod Sums
pub mod Surveyed
pub mod ToldDrops
