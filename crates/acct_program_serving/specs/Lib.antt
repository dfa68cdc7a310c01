pub mod Balances
pub mod Counts
pub mod Files
pub mod Runs
pub mod Serving
pub mod Promise
