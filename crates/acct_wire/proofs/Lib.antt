-- what an answer says, put together from its parts
pub mod AnswerParts
-- why a datagram has one judgement
pub mod Judgement
-- why it requests one entry
pub mod Asked
-- why no two clients share a name or an address
pub mod ClientLaws
-- what attributes spell as they are heard
pub mod Heard
-- why a request that is faultless requests one at all
pub mod Spelled
-- the lines of reasons, one more
pub mod EachReason
-- why a device is none of another client's
pub mod Tellers
