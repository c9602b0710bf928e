pub mod Laws
pub mod Leaves
pub mod Ranges
pub mod Sets
