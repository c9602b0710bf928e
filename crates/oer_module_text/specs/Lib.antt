pub mod Errors
pub mod Room
