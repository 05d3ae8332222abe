pub mod Bodies
pub mod Cut
pub mod Takes
