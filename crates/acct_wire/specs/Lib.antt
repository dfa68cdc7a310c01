pub mod Clients
pub mod Hearing
pub mod ClientFaults
pub mod Reasons
pub mod Datagrams
pub mod Outcomes
pub mod Laws
pub mod inner
