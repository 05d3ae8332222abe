pub mod RecordLaws
pub mod Listing
pub mod Feeding
pub mod Looking
