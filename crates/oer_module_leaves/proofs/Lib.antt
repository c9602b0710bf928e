pub mod Counted
pub mod Items
pub mod Lengths
pub mod Stages
