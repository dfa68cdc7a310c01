-- What the functions of the crate promise one another and the crate above. No contract of a book
-- cites it.
pub mod Adding
