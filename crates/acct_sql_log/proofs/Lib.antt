-- what the commits of a log are, by what was read of it
pub mod CommitLemmas
-- how commits are counted frame by frame
pub mod Counting
-- how a reader continues
pub mod ReadingLemmas
