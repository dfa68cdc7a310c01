-- What only private functions and proofs use.
pub mod Walk
