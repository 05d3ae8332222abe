pub mod Falling
pub mod Fusing
