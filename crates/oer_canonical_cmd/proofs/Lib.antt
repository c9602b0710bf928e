pub mod Strictly
pub mod Lines
