pub mod Readers
pub mod Tokens
pub mod Begins
