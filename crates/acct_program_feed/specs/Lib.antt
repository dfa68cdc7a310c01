pub mod Answers
pub mod Faults
pub mod Feed
pub mod Line
pub mod Lines
pub mod Octets
pub mod Words
pub mod inner
