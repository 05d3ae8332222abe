pub mod Bounds
pub mod Turns
pub mod CalmLaws
pub mod OfAccepted
pub mod WorstLaws
pub mod OneOutcome
