pub mod Judge
pub mod Seen
