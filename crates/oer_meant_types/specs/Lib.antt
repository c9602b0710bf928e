pub mod Laws
pub mod Types
