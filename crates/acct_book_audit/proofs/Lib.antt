-- sums over lists in which each element occurs once
pub mod Onces
-- what the rows and the top-ups add up to if their content stands for a history
pub mod Standing
-- what was found on a walk, and what holds of each member that a whole walk met
pub mod Walking
-- when the balance of an account is right, by its statement and by its rows and top-ups
pub mod Right
-- an audit of a whole book finds nothing exactly if every account is balanced
pub mod Whole
-- what three whole walks met and found, in terms of the content
pub mod MetAll
-- the balance that is kept for an account, or that none is
pub mod Found
