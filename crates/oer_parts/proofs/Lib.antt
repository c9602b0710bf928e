mod Entries
mod Pairs
mod Walks
mod Finds
mod Inside
mod TagParts
mod Leading
mod Digits
pub mod Paths
pub mod UnitFronts
mod Standing
mod Ranging
mod Lasts
mod Zeros
