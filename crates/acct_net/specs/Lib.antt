pub mod Bound
pub mod Doors
pub mod inner
