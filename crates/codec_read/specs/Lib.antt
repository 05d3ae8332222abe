pub mod Read
pub mod Fronts
