pub mod Back
pub mod Theorems
pub mod OneOutcome
pub mod RoundTrip
