pub mod Balancing
pub mod Laws
pub mod Finding
pub mod Audit
pub mod inner
