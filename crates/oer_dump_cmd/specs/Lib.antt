pub mod Words
pub mod Showing
pub mod Ending
pub mod Telling
