pub mod Names
pub mod Print
