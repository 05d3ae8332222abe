pub mod Print
pub mod Reports
