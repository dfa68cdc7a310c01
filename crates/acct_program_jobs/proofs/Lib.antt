-- what is found in the files of a book, and what is left of them
pub mod Found
-- how a command ended that a fault ended
pub mod Ended
-- the promise over the files, by that of `serve`
mod Promised
