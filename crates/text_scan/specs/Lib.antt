pub mod Reader
pub mod Reads
pub mod Kept
