pub mod Wanted
pub mod Line
pub mod Words
pub mod Ending
