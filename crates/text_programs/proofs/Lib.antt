pub mod Sending
pub mod Programs
pub mod OneOutcome
