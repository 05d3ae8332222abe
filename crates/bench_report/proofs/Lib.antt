pub mod LongInput
pub mod Outputs
pub mod Printing
pub mod Telling
pub mod OneOutcome
pub mod Fits
