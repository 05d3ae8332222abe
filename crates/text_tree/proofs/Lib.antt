pub mod Held
pub mod ToEnd
pub mod HeadLaws
