pub mod Order
pub mod Demand
pub mod Firings
pub mod Sequences
pub mod Samples
pub mod Instance
pub mod Slips
