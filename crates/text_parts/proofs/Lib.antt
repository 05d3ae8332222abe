pub mod Pieces
pub mod Listed
