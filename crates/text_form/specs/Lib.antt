pub mod Form
pub mod Reading
