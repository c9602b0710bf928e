pub mod Rows
pub mod Lines
pub mod Listing
pub mod Naming
