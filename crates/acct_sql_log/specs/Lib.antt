pub mod Answered
pub mod Beside
pub mod Chain
pub mod Commits
pub mod Damage
pub mod Left
pub mod Scanner
pub mod inner
