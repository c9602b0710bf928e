pub mod Words
pub mod Leaves
pub mod Drawn
pub mod Weight
pub mod Picked
pub mod Laws
