pub mod Answer
pub mod Asking
pub mod Ending
pub mod Names
pub mod Stops
