pub mod Home
pub mod Meant
pub mod Laws
