pub mod Own
pub mod Loops
