pub mod Constraints
pub mod Items
pub mod Looks
pub mod Parameters
pub mod Trees
pub mod Values
