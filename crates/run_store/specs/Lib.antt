pub mod Store
pub mod Queues
pub mod Quiet
