pub mod GoodSheet
pub mod Above
pub mod Owned
pub mod RoundTrip
pub mod Outside
pub mod Refusals
pub mod Lists
