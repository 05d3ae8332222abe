pub mod Flow
pub mod Effect
pub mod Able
