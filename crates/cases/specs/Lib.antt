pub mod Case
pub mod SheetA
pub mod Firings
pub mod Rewritings
pub mod Damaged
pub mod Table
pub mod TextTable
