mod Elements
pub mod Sizes
pub mod WholeValues
mod Compared
mod Bounds
mod TypeBounds
