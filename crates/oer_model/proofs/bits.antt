-- Lemmas on bits in octets.
pub mod Packing
pub mod LowBits
pub mod Unique
pub mod LeastBits
pub mod UnknownBits
