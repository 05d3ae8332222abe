pub mod Op
pub mod Memory
