pub mod Writing
pub mod OneOutcome
