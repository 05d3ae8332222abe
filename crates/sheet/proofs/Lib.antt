pub mod AnswerLaws
pub mod Turns
pub mod Accepted
pub mod Placed
pub mod InMemory
pub mod OneOutcome
pub mod Passed
pub mod Laws
