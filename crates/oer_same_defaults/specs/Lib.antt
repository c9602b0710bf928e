pub mod Tame
pub mod Short
pub mod Laws
