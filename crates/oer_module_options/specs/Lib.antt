pub mod Asked
pub mod Errors
pub mod Nesting
pub mod Scan
pub mod Words
