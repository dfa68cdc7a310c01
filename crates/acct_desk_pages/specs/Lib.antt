pub mod Responses
pub mod Bodies
pub mod Logins
pub mod Overdrawn
