pub mod Names
pub mod Hops
pub mod Views
pub mod Finding
pub mod Meaning
pub mod Laws
