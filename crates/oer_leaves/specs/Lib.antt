pub mod Wrote
pub mod Parts
pub mod Packing
pub mod Comparing
