pub mod Told
pub mod Ordinary
pub mod Laws
