pub mod TurnLaws
pub mod Kept
