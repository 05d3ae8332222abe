pub mod Parting
pub mod Splitting
