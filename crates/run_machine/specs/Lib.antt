pub mod Machine
pub mod Ready
pub mod Numbers
pub mod Calls
pub mod Answers
pub mod Working
pub mod Readers
