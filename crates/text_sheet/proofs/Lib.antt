pub mod HighestLaws
pub mod BuiltLaws
