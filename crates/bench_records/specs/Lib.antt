pub mod Records
pub mod Looks
