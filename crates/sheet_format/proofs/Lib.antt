pub mod Sizes
pub mod Codes
pub mod Steps
pub mod Fronts
pub mod Written
pub mod Read
pub mod Heads
