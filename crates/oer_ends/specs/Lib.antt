pub mod Ends
pub mod Opened
pub mod Nests
pub mod Laws
