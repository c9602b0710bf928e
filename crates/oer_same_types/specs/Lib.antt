pub mod Unsized
pub mod Gathering
pub mod Ordinary
pub mod Laws
