pub mod Faultless
pub mod Members
pub mod Rejecting
pub mod Nexts
pub mod Downward
pub mod Going
pub mod Innermost
