pub mod Extends
pub mod Difference
pub mod Views
pub mod Laws
