-- an end over an exchange, as one over another that counts and records the same
pub mod HandedOn
-- the files of balances, by the history of the book
mod Balances
-- the promise, by the visits of a run
pub mod Promised
