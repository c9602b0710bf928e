pub mod Telling
mod Room
mod Digits
mod Items
mod Defaults
mod Listed
mod Quiet
mod Leaves
mod Tags
mod Elements
mod Short
mod Types
pub mod Counted
