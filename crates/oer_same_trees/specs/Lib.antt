pub mod Says
pub mod Defining
pub mod Laws
