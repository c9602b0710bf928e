pub mod Words
pub mod Rejected
pub mod Flag
pub mod Scan
pub mod Setting
