pub mod Calling
pub mod Rest
pub mod Asking
pub mod OneOutcome
