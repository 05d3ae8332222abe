pub mod Fields
pub mod Reordering
