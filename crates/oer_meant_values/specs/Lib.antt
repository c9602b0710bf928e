pub mod Laws
pub mod Parts
pub mod Reaching
pub mod Values
