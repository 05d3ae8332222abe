pub mod Came
pub mod Told
pub mod AnswerLaws
pub mod OneOutcome
