mod Lengths
pub mod Bounds
pub mod Strings
mod Loops
pub mod Picking
pub mod Fitting
pub mod NoEnds
