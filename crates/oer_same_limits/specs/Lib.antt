pub mod Takes
pub mod Short
pub mod Laws
