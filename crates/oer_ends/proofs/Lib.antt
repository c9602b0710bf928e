pub mod OpenEnds
pub mod Places
pub mod Roots
