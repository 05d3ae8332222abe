pub mod Naming
pub mod Texts
pub mod Answers
pub mod OneOutcome
