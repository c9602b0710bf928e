pub mod Base64
pub mod Faults
pub mod Hex
pub mod Laws
pub mod Octets
