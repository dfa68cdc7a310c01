-- the subcommand that a parse entered
pub mod Entered
-- the bounds of a job's numbers
pub mod Bounds
