pub mod Pieces
pub mod LineLaws
pub mod Lengths
