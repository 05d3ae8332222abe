pub mod Feeding
pub mod Running
pub mod Ending
pub mod Front
pub mod Narrow
pub mod Within
pub mod OneOutcome
