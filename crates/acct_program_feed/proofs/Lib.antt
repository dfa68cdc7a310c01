-- how octets are cut after the end of their first line
pub mod Cut
-- a signed request fits into the array that it was written into
pub mod Signing
-- how the words of a text are cut
pub mod WordLemmas
-- a run of lines, one line more
pub mod Runs
-- the words of a packet's line
pub mod PacketWords
-- the size of a reply
pub mod Replies
