-- the orders of keys and octets
pub mod Keys
-- what an ordered map's write does to the function that it is seen as
pub mod MapSteps
-- the calls of the book in memory, as effects on its content
pub mod MemSteps
-- the lists that a book gives: each member, once and in order
pub mod Listed
-- the keys of the rows of an account
pub mod ListedKeys
-- the next member of an ordered map
pub mod Walks
-- the row of a session after one more entry
pub mod Rows
-- what one accepted entry does to a content that stands for a history
pub mod Steps
-- what the calls of a book give together
pub mod Calls
-- how a step is put together, for each implementation of a book
pub mod StepLemmas
-- calls that only read, one after another
pub mod Looking
-- what `record` says at its exits
pub mod Exits
-- what a crash may leave after a call, by its effect
pub mod Crashes
-- which rows there are, which report was the first to say something, and how a session ends
pub mod Ends
-- why a row says what it says of its session's reports
pub mod RowLaws
-- why a walk meets each member once
pub mod WalkLaws
-- a walk by a call that returns the next member
pub mod Walking
-- why lists of members in order are fixed by their members
pub mod Fixed
-- why the entries of others leave an account's part as it is
pub mod Parts
-- why a content stands for a history after plans were added to it
pub mod Additions
-- why an empty content stands for the empty history
pub mod Empty
-- rows that are removed from a map
pub mod Removing
