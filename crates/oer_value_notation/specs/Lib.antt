pub mod Leaves
pub mod Numbers
pub mod State
pub mod Values
pub mod Words
pub mod Faults
