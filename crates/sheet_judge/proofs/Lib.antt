pub mod KnownLaws
pub mod Shapes
pub mod JudgedLaws
