-- What private functions and proofs need, and no public contract reaches.
pub mod AskView
pub mod BearerView
pub mod Cut
pub mod Head
pub mod LoginView
pub mod Pages
pub mod Part
pub mod Reading
pub mod Request
pub mod TopUpAnswers
