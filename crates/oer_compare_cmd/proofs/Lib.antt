pub mod Endings
pub mod Texts
