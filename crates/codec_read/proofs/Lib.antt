pub mod Turns
pub mod Follow
pub mod Chain
pub mod InMemory
pub mod Answers
pub mod Reading
pub mod ReadEnds
pub mod OneOutcome
