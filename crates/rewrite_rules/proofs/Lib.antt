pub mod Lines
pub mod Pairs
pub mod Answers
