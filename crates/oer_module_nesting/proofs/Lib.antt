pub mod Alike
pub mod Leaves
pub mod Components
pub mod Defaults
pub mod Gathered
pub mod Elements
pub mod Types
pub mod Example
