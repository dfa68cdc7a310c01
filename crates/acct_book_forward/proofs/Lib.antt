-- why a content stands for a history after sessions were carried forward
pub mod Forwards
-- what a call does to a book that carries sessions forward
pub mod Carrying
-- some of the rows of an account are in the content
pub mod CarriedParts
-- calls that carry sessions forward, one after another, and what stays as it was
pub mod CarriedOn
-- parts of a list that is in order
pub mod InOrder
-- the rows that were counted under keys, one after another
pub mod Counted
-- the rows that were found under keys, one after another
pub mod RowsUnder
