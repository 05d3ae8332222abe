pub mod Answer
pub mod Reads
