pub mod Calm
pub mod Worst
pub mod Answers
