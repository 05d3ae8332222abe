pub mod Answer
pub mod Sheet
pub mod Check
pub mod Judges
pub mod Facts
