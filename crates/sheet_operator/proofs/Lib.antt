pub mod ViewLaws
pub mod Held
pub mod InTurn
pub mod Vacant
