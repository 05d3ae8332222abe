pub mod Writes
pub mod Bodies
