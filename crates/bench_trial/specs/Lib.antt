pub mod Trial
pub mod Tries
