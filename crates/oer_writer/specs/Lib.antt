pub mod Write
pub mod Gathering
pub mod Bounds
pub mod TypeBounds
