pub mod Deeper
pub mod Defaults
pub mod Free
pub mod Laws
pub mod Example
