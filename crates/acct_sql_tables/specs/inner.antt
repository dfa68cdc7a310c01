-- What the calls on tables promise one another. No public contract of a book cites it.
pub mod Columns
pub mod Inside
pub mod Listed
pub mod AtRest
pub mod NewBook
pub mod Migrating
pub mod Looked
pub mod Next
pub mod Rising
