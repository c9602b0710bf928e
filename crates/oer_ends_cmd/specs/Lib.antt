pub mod Telling
pub mod Ending
