pub mod Asking
pub mod Errors
pub mod Answer
pub mod Ending
