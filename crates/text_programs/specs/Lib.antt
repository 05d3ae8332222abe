pub mod Output
pub mod Sends
