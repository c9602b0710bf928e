pub mod Alternatives
pub mod NameSteps
pub mod AnyFault
pub mod Ascending
pub mod NameOrder
