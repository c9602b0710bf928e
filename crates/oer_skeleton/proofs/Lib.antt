pub mod Taken
pub mod Components
pub mod Zeros
pub mod Numbers
pub mod Fitting
pub mod NoEnds
