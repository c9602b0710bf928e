pub mod Tokens
pub mod Leaves
mod Settled
pub mod Literals
pub mod Single
mod Same
