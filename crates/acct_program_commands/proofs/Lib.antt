-- what a walk has counted of sessions that are charged anew
pub mod CountedAnew
-- the places of a log of drops
pub mod Places
-- what holds of the elements of a list up to a place
pub mod Elements
-- what a run of `forward` did to its book
pub mod Forwarded
-- what a survey over the accounts of a book has counted and printed
pub mod Surveyed
-- what the end of an audit means
pub mod Audited
-- what is put in the place of a file
pub mod Placed
