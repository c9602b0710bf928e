pub mod Fields
pub mod Gathered
pub mod Levels
pub mod Types
pub mod Views
