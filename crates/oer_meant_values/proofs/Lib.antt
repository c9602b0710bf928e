pub mod Parts
mod Apart
mod Leaves
mod Reached
mod Slots
mod Sound
pub mod SoleParts
pub mod SoleTags
pub mod SoleReached
pub mod SoleValues
