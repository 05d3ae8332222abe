pub mod Record
pub mod Head
