pub mod Texts
pub mod Offers
pub mod Counting
pub mod Halfway
pub mod Headers
pub mod Walking
pub mod Repeats
pub mod CutExports
