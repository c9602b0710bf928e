pub mod Strict
pub mod Scan
pub mod Ending
